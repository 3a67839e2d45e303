-- How many templates are open.
use Rattle.std.specs.Prelude.{ℕ, suc, ◌<◌, List, [], ◌∷◌, ⊤}
use Rattle.frames.specs.declared.frame.Frame.{Frame}
use Rattle.frames.specs.declared.frame.Frame.TheVariants as f

-- with one more frame: that of a template is one template more
abbrev pub deeper : Frame → ℕ → ℕ
deeper (f.Template locals context) d = suc d
deeper (f.Body rest begun locals) d = d
deeper f.Close d = d
deeper (f.Literal attributes body) d = d
deeper (f.Whens whens otherwise) d = d
deeper (f.Params passing) d = d
deeper (f.Choose mode given) d = d
deeper (f.Declared declaring) d = d
deeper (f.Stream select taken work context) d = d
deeper (f.Items nodes next work context) d = d
deeper (f.Children mode) d = d
deeper (f.Keys nodes rows sorts work context) d = d
deeper (f.Copies nodes next) d = d
deeper (f.Apart outer purpose) d = d
deeper (f.Globals left begun) d = d

-- how many of the frames are those of templates
abbrev pub depth : List Frame → ℕ
depth [] = 0
depth (frame ∷ frames) = deeper frame (depth frames)

-- a frame may be put on top of so many templates: that of a template only where fewer than 500 are open
abbrev pub HasRoom : Frame → ℕ → Type 0
HasRoom (f.Template locals context) d = d < 500
HasRoom (f.Body rest begun locals) d = ⊤
HasRoom f.Close d = ⊤
HasRoom (f.Literal attributes body) d = ⊤
HasRoom (f.Whens whens otherwise) d = ⊤
HasRoom (f.Params passing) d = ⊤
HasRoom (f.Choose mode given) d = ⊤
HasRoom (f.Declared declaring) d = ⊤
HasRoom (f.Stream select taken work context) d = ⊤
HasRoom (f.Items nodes next work context) d = ⊤
HasRoom (f.Children mode) d = ⊤
HasRoom (f.Keys nodes rows sorts work context) d = ⊤
HasRoom (f.Copies nodes next) d = ⊤
HasRoom (f.Apart outer purpose) d = ⊤
HasRoom (f.Globals left begun) d = ⊤
