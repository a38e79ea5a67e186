-- A reading's numbers, as the code puts them in a row: only the flag is made a number. Assumes nothing.
use mathlib.Core.Path.{◌≡◌, ap, ◌∙◌}
use mathlib.Core.Bool.{cond}
use mathlib.Core.List.{List, [], ◌∷◌}
use Prim.Native.Nat.{ℕ}
use Rattle.reading.specs.declared.Reading.{Reading}
use Rattle.lacrumont.specs.Numbers.{numbers_in}

abbrev row_of : Reading → (flag : ℕ) → List ℕ
row_of r flag =
    r.header_at ∷ r.header_len ∷ r.view_at ∷ r.view_len ∷ r.width ∷ r.rows ∷ r.layout.bits ∷ r.layout.compression ∷ flag
    ∷ r.layout.masks.red ∷ r.layout.masks.green ∷ r.layout.masks.blue ∷ r.layout.masks.alpha ∷ []

pub numbers_are : (r q : Reading) (flag : ℕ) → r ≡ q → flag ≡ cond r.layout.top_down 1 0 → (r.status ≡ q.status) × (row_of r flag ≡ numbers_in q)
numbers_are r q flag e f = (ap (λ (x : Reading). x.status) e, ap (row_of r) f ∙ ap numbers_in e)
