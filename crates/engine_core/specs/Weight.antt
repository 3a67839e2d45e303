-- What falls with each move of a machine.
use Rattle.std.specs.Prelude.{ℕ, ◌+◌, ◌-◌, ◌*◌, List, [], ◌∷◌, length, Bool, true, false}
use Rattle.frames.specs.declared.frame.Frame.{Frame}
use Rattle.frames.specs.declared.frame.Frame.TheVariants as f
use Rattle.frames.specs.declared.parts.Purpose.{Purpose}
use Rattle.frames.specs.declared.parts.Purpose.TheVariants as purpose
use Rattle.frames.specs.declared.parts.Use.{Use}
use Rattle.frames.specs.declared.parts.Use.TheVariants as use_of

-- an instruction that has its unit may put frames in place of itself
abbrev pub begun_weight : Bool → ℕ
begun_weight true = 73786976294838206464
begun_weight false = 1

-- so much weighs the frame that the use of a value may leave
abbrev pub use_weight : Use → ℕ
use_weight use_of.Local = 0
use_weight (use_of.Handed name p) = 36893488147419103232 + 4 * length p.left.now
use_weight (use_of.Declared d) = 4 * length d.left.now + 2
use_weight (use_of.Global at left) = 4 * length left.now + 2

abbrev pub purpose_weight : Purpose → ℕ
purpose_weight (purpose.Value u) = use_weight u + 1
purpose_weight (purpose.Attribute name) = 1
purpose_weight (purpose.Processing target) = 1
purpose_weight purpose.Comment = 1
purpose_weight (purpose.Message terminate) = 1

abbrev pub weight_of : Frame → ℕ
weight_of (f.Template locals context) = 1
weight_of (f.Body rest begun locals) = begun_weight begun
weight_of f.Close = 1
weight_of (f.Literal attributes body) = length attributes.now + 4
weight_of (f.Whens whens otherwise) = length whens.now + 3
weight_of (f.Params p) = 36893488147419103232 + 4 * length p.left.now
weight_of (f.Choose mode given) = 1
weight_of (f.Declared d) = 4 * length d.left.now + 2
weight_of (f.Stream select taken work context) = 3 * (4294967296 - taken) + 1
weight_of (f.Items nodes next work context) = 3 * (length nodes - next) + 1
weight_of (f.Children mode) = 12884901890
weight_of (f.Keys nodes rows sorts work context) = 4 * length nodes + (length nodes - length rows) + 2
weight_of (f.Copies nodes next) = length nodes - next + 1
weight_of (f.Apart outer purpose) = purpose_weight purpose
weight_of (f.Globals left begun) = 4 * length left.now + 2

abbrev pub weight : List Frame → ℕ
weight [] = 0
weight (frame ∷ frames) = weight_of frame + weight frames
