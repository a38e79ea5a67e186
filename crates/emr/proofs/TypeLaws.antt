-- The table of types: every field begins near, as each row shows; a row by its type, or by no type. Assumes nothing.
use mathlib.Core.Path.{◌≡◌, sym, subst, ap, ◌∙◌}
use mathlib.Core.Bool.{Bool, true, false, cond}
use Prim.Native.Nat.{ℕ}
use lib.Dec.{eqb, lit≤}
use borrow.Author.Tests.{ne_eqb}
use Rattle.emr.specs.declared.Offsets.{Offsets}
use Rattle.emr.specs.declared.Row.{Row}
use Rattle.emr.specs.declared.Form.{Form}
use Rattle.emr.specs.Types.{alpha_blend, mask_blt, stretch_dibits, row_of, Near, IsRow}

cond_near : (b : Bool) (f g : Row) → Near f.at → Near g.at → Near (cond b f g).at
cond_near true f g p q = p
cond_near false f g p q = q

near : (t : ℕ) → Near (row_of t).at
unfolding row_of
near t =
    cond_near (eqb t alpha_blend) _ _
    (record { extent = lit≤ tt; corner = lit≤ tt; extent_src = lit≤ tt; transform = lit≤ tt; parts = lit≤ tt; mask = lit≤ tt })
    (cond_near (eqb t mask_blt) _ _
    (record { extent = lit≤ tt; corner = lit≤ tt; extent_src = lit≤ tt; transform = lit≤ tt; parts = lit≤ tt; mask = lit≤ tt })
    (cond_near (eqb t stretch_dibits) _ _
    (record { extent = lit≤ tt; corner = lit≤ tt; extent_src = lit≤ tt; transform = lit≤ tt; parts = lit≤ tt; mask = lit≤ tt })
    (record { extent = lit≤ tt; corner = lit≤ tt; extent_src = lit≤ tt; transform = lit≤ tt; parts = lit≤ tt; mask = lit≤ tt })))

-- a row made of offsets that are the table's at type k, whose form and sign are too
pub is_row : (t : ℕ) (r : Row) → r ≡ row_of t → IsRow t r
is_row t r e = record { row = e; near = subst (λ (q : Row). Near q.at) (sym e) (near t) }

module _ (t : ℕ) (at : Offsets) (form : Form) (signed : Bool) where
  abbrev made : Row
  made = record { at = at; form = form; signed = signed }

  pub row_at : (k : ℕ) → t ≡ k → made ≡ row_of k → IsRow t made
  row_at k e f = is_row t made (f ∙ sym (ap row_of e))

  pub row_unlisted : (t ≡ alpha_blend → ⊥) → (t ≡ mask_blt → ⊥) → (t ≡ stretch_dibits → ⊥) → made ≡ row_of 0 → IsRow t made
  unfolding row_of
  row_unlisted a b c f = is_row t made (rw (ne_eqb t alpha_blend a, ne_eqb t mask_blt b, ne_eqb t stretch_dibits c) f)
