use Rattle.std.proofs.Common.{◌∙◌}
use Rattle.engine_frames.proofs.Receiving.{attribute_goes, processing_goes, comment_goes, value_goes}
use Rattle.engine_frames.proofs.passing.receive.Goals as goal

pub returns-in-Value : goal.returns-in-Value
returns-in-Value g c = λ lookups rules steps s.
    value_goes _ steps c.args.core.now c.args.outer c.args.purpose c.in-Value.how c.use_value.new.core c.use_value.result c.replace.new.dest c.into_events-made.result
    c.replace.ensures.after (c.into_events-made.ensures ∙ c.replace.ensures.value) c.in-Value.is s (c.use_value.ensures lookups rules steps)

pub returns-in_ok-push-in-Attribute : goal.returns-in_ok-push-in-Attribute
returns-in_ok-push-in-Attribute g c = λ lookups rules steps s.
    rw (c.in_ok-push-in-Attribute.ensures.ok, c.in_ok-value-in-Attribute.ensures, c.into_events-made.ensures, c.replace.ensures.value, c.replace.ensures.after)
    (attribute_goes _ steps c.args.core.now c.args.outer c.args.purpose c.in-Attribute.name c.in-Attribute.is s)

pub returns-in_ok-push-in-Processing : goal.returns-in_ok-push-in-Processing
returns-in_ok-push-in-Processing g c = λ lookups rules steps s.
    rw (c.in_ok-push-in-Processing.ensures.ok, c.in_ok-value-in-Processing.ensures, c.into_events-made.ensures, c.replace.ensures.value, c.replace.ensures.after)
    (processing_goes _ steps c.args.core.now c.args.outer c.args.purpose c.in-Processing.target c.in-Processing.is s)

pub returns-in_ok-push-in-Comment : goal.returns-in_ok-push-in-Comment
returns-in_ok-push-in-Comment g c = λ lookups rules steps s.
    rw (c.in_ok-push-in-Comment.ensures.ok, c.in_ok-text-in-Comment.ensures, c.into_events-made.ensures, c.replace.ensures.value, c.replace.ensures.after)
    (comment_goes _ steps c.args.core.now c.args.outer c.args.purpose c.in-Comment.is s)
