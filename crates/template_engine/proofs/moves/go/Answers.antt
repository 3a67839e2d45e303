use Rattle.engine_core.proofs.Moves.{does_goes}
use Rattle.engine_core.proofs.Keeping.{kept_none}
use Rattle.template_engine.proofs.moves.go.Goals as goal

pub returns-in-Template-clause-kept : goal.returns-in-Template-clause-kept
returns-in-Template-clause-kept g c = kept_none c.requires.ready.stands

pub returns-in-Body-default-false-default-clause-kept : goal.returns-in-Body-default-false-default-clause-kept
returns-in-Body-default-false-default-clause-kept g c = kept_none c.requires.ready.stands

pub returns-in-Close-clause-kept : goal.returns-in-Close-clause-kept
returns-in-Close-clause-kept g c = kept_none c.requires.ready.stands

pub returns-in-Items-clause-kept : goal.returns-in-Items-clause-kept
returns-in-Items-clause-kept g c = kept_none c.requires.ready.stands

pub returns-in-Apart-clause-kept : goal.returns-in-Apart-clause-kept
returns-in-Apart-clause-kept g c = kept_none c.requires.ready.stands

pub returns-in-Apart-clause-goes : goal.returns-in-Apart-clause-goes
returns-in-Apart-clause-goes g c =
    rw c.in-Apart.is (does_goes _ _ _ _ _ _ _ c.receive.result (c.receive.ensures _ _ _ (rw c.in-Apart.is at c.requires.ready.sound)))
