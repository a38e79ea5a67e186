-- Folding number by number is folding over all of their bytes.
use Rattle.std.proofs.Common.{rules, ◌≡◌, List, [], ◌∷◌, ℕ, refl, sym, ◌∙◌}
use Rattle.std.proofs.lemmas.List.Sums.{fold-append}
use Rattle.std.specs.Prelude.{fold}
use Rattle.words.specs.Bytes.{bytes32}
use Rattle.script_format.specs.Sum.{start, step, sum_from, bytes_of}
use Rattle.script_format.proofs.sum.of_words.Goals as goal

by_number : (h : ℕ) (vs : List ℕ) → fold (λ g v. sum_from g (bytes32 v)) h vs ≡ sum_from h (bytes_of vs)
by_number h [] = refl
by_number h (v ∷ vs) = by_number (sum_from h (bytes32 v)) vs ∙ sym (fold-append step h (bytes32 v) (bytes_of vs))

pub returns : goal.returns
returns c =
    let e : c.fold.result ≡ fold (λ g v. sum_from g (bytes32 v)) start c.args.s.now = search rules in
    e ∙ by_number start c.args.s.now
