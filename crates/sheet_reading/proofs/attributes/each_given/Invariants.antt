use Rattle.std.proofs.Common.{◌≡◌, drop}
use Rattle.xpath_binding.specs.Names.{resolution}
use Rattle.sheet_reading.specs.Attributes.{given}
use Rattle.sheet_reading.specs.Judgement.{each}
use Rattle.sheet_reading.proofs.Loops.{prepend}
use Rattle.sheet_reading.proofs.attributes.each_given.Given as goal

abbrev pub invariant-loop-attribute : goal.invariant-loop-attribute
invariant-loop-attribute l = each (given (resolution l.scopes) l.line l.tag) l.attributes ≡ prepend l.all (each (given (resolution l.scopes) l.line l.tag) (drop l.attribute-index l.attributes))
