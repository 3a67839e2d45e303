use Rattle.std.proofs.Common.{[], IsTrue, refl, sym, subst}
use Rattle.std.specs.Io.KnownBytes.{IsAtEnd}
use Rattle.std.proofs.lemmas.Bool.{false≢true}
use Rattle.pyx_source.specs.Reading.{Reading}
use Rattle.line_feeder.specs.Standing.{HasGiven, HasRead}
use Rattle.line_feeder.proofs.Cuts.{fresh_given, fresh_read, fresh_asked}
use Rattle.line_feeder.proofs.feeder.Feeder.start.Goals as goal

pub returns-clause-fed : goal.returns-clause-fed
returns-clause-fed c = λ told.
    let reader = sym c.in_ok-reader.ensures in
    record {
      going = refl;
      filled = record { built = c.in_ok-builder.ensures; given = subst (λ (it : Reading). HasGiven it 0) reader fresh_given };
      end = subst (λ (it : Reading). IsTrue it.ended → IsAtEnd told) reader (λ ended. absurd (false≢true ended));
      read = subst (λ (it : Reading). HasRead it told told []) reader (fresh_read told);
      asked = fresh_asked told;
    }

pub returns-clause-fills : goal.returns-clause-fills
returns-clause-fills c = λ _.
    let reader = sym c.in_ok-reader.ensures in
    ([], record { built = c.in_ok-builder.ensures; given = subst (λ (it : Reading). HasGiven it 0) reader fresh_given })
