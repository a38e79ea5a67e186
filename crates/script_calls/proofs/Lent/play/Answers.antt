-- A play, with its terms by what they were read from.
use Rattle.std.proofs.Common.{◌≡◌, arith}
use Rattle.std.proofs.lemmas.Grind.{common_steps}
use Rattle.meaning.specs.Meaning.{terms_at}
use Rattle.script_calls.proofs.Lent.play.Goals as goal

pub returns-clause-outcome : goal.returns-clause-outcome
returns-clause-outcome c =
    let terms : c.read_terms-terms.result ≡ terms_at c.args.call.now 4 = c.read_terms-terms.ensures in
    grind (arith, common_steps)
