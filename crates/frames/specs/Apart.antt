-- The result events outside of the bodies that are run apart.
use Rattle.std.specs.Prelude.{List, [], ◌∷◌, Option, Some, None}
use Rattle.frames.specs.declared.frame.Frame.{Frame}
use Rattle.frames.specs.declared.frame.Frame.TheVariants as f
use Rattle.result_events.specs.declared.event.ResultEvent.{ResultEvent}

-- with one more body that is run apart, the outermost stays
abbrev pub innermost : Option (List ResultEvent) → List ResultEvent → Option (List ResultEvent)
innermost None outer = Some outer
innermost (Some events) outer = Some events

-- the events outside of a frame and of those below it, which have these
abbrev pub outside : Frame → Option (List ResultEvent) → Option (List ResultEvent)
outside (f.Template locals context) b = b
outside (f.Body rest begun locals) b = b
outside f.Close b = b
outside (f.Literal attributes body) b = b
outside (f.Whens whens otherwise) b = b
outside (f.Params passing) b = b
outside (f.Choose mode given) b = b
outside (f.Declared declaring) b = b
outside (f.Stream select taken work context) b = b
outside (f.Items nodes next work context) b = b
outside (f.Children mode) b = b
outside (f.Keys nodes rows sorts work context) b = b
outside (f.Copies nodes next) b = b
outside (f.Apart outer purpose) b = innermost b outer
outside (f.Globals left begun) b = b

-- the events outside of the outermost body that is run apart; none, where no body is
abbrev pub base : List Frame → Option (List ResultEvent)
base [] = None
base (frame ∷ frames) = outside frame (base frames)
