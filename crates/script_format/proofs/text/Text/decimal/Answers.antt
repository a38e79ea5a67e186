-- As many digits are put as were counted.
use Rattle.std.proofs.Common.{rules, arith, ◌≡◌, ℕ, ◌-◌, sym, ap, ◌∙◌, subst}
use Rattle.std.proofs.lemmas.List.Edits.{sets}
use Rattle.io.specs.Digits.{last_digits, IsDigitCount}
use Rattle.script_format.proofs.text.Text.decimal.Goals as goal

pub returns-clause-printed : goal.returns-clause-printed
returns-clause-printed c =
    let before = c.args.self.now in
    let many : c.put.new.self.len - before.len ≡ c.decimal-count.result = omega (arith, c.put.ensures.len, c.decimal-count.ensures.in_bounds.1) in
    record {
      some = search rules;
      few = search rules;
      fewest = subst (IsDigitCount 10 1 c.args.n) (sym many) c.decimal-count.ensures.len;
      text = c.put.ensures.bytes ∙ ap (sets before.buffer.now before.len) c.decimal-count.ensures.digits
          ∙ ap (λ (m : ℕ). sets before.buffer.now before.len (last_digits 10 m c.args.n)) (sym many);
    }
