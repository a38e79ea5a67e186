-- What was found is a picture or none, and each return is its reading.
use mathlib.Core.Path.{sym, ap, ◌∙◌}
use Rattle.words.specs.Refusal.{numbered}
use Rattle.reading.specs.Reading.{empty_reading}
use Rattle.reading.proofs.ReadingLaws.{answers_refused, answers_fields, answers_present, answers_none}
use Rattle.reading.proofs.read.Goals as goal

pub returns-in-Err : goal.returns-in-Err
returns-in-Err c =
    answers_refused _ _ _ c.check.ensures _ _ (ap numbered c.in-Err.is) (c.nothing-in-Err.ensures ∙ ap empty_reading c.from.ensures)

pub full-requires : goal.full-requires
full-requires c =
    answers_fields _ _ _ c.check.ensures (empty_reading 0) _ (ap numbered c.in-Ok.is) _ (sym c.wanted.ensures ∙ c.in-Some.is)

pub returns-in-Some : goal.returns-in-Some
returns-in-Some c =
    answers_present _ _ _ c.check.ensures _ _ (ap numbered c.in-Ok.is) _ (sym c.wanted.ensures ∙ c.in-Some.is) c.full.ensures

pub returns-in-None : goal.returns-in-None
returns-in-None c =
    answers_none _ _ _ c.check.ensures _ _ (ap numbered c.in-Ok.is) (sym c.wanted.ensures ∙ c.in-None.is) c.nothing.ensures
