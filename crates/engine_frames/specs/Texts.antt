-- The texts outside elements, event by event.
use Rattle.std.specs.Prelude.{ℕ, suc, pred, List, []}
use Rattle.engine_meaning.specs.Events.{if_outside}
use Rattle.result_events.specs.declared.event.ResultEvent.{ResultEvent}
use Rattle.result_events.specs.declared.event.ResultEvent.TheVariants.{Start, Attr, Text, Instruction, Comment, End}

-- the text of an event where so many elements are open; only a text outside elements has some
abbrev pub text_here : ℕ → ResultEvent → List ℕ
text_here depth (Start name) = []
text_here depth (Attr name value) = []
text_here depth (Text text) = if_outside depth text
text_here depth (Instruction target value) = []
text_here depth (Comment text) = []
text_here depth End = []

-- how many elements are open behind an event
abbrev pub depth_behind : ℕ → ResultEvent → ℕ
depth_behind depth (Start name) = suc depth
depth_behind depth (Attr name value) = depth
depth_behind depth (Text text) = depth
depth_behind depth (Instruction target value) = depth
depth_behind depth (Comment text) = depth
depth_behind depth End = pred depth
