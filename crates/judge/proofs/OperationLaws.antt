-- What the code's matches say: the definition's clause of the constructor that was met. Assumes nothing.
use mathlib.Core.Path.{◌≡◌, sym, ap, ap₂, ◌∙◌}
use mathlib.Core.Bool.{Bool, ◌||◌}
use Prim.Native.Nat.{ℕ}
use borrow.Author.Tests.{eq-eqb, ne_eqb}
use Rattle.pixel.specs.Raster.{needs_source}
use Rattle.emr.specs.declared.Form.{Form}
use Rattle.emr.specs.declared.Form.TheVariants.{Blend, Rop4, Rop}
use Rattle.judge.specs.declared.Action.{Action}
use Rattle.judge.specs.declared.Action.TheVariants.{Blend0, Blend1, Raster, Masked}
use Rattle.judge.specs.Operation.{constant_alpha, alpha_format, foreground, background, rop, action_of, reads_source}

module _ (form : Form) (field : ℕ) where
  pub action_format1 : form ≡ Blend → alpha_format field ≡ 1 → Blend1 (constant_alpha field) ≡ action_of form field
  action_format1 e f = rw (e, eq-eqb (alpha_format field) 1 f)

  pub action_format0 : form ≡ Blend → (alpha_format field ≡ 1 → ⊥) → Blend0 (constant_alpha field) ≡ action_of form field
  action_format0 e f = rw (e, ne_eqb (alpha_format field) 1 f)

  pub action_masked : form ≡ Rop4 → Masked (foreground field) (background field) ≡ action_of form field
  action_masked e = rw e

  pub action_raster : form ≡ Rop → Raster (rop field) ≡ action_of form field
  action_raster e = rw e

module _ (a : Action) where
  pub reads_masked : (f b : ℕ) {x y : Bool} → a ≡ Masked f b → x ≡ needs_source f → y ≡ needs_source b → (x || y) ≡ reads_source a
  reads_masked f b e p q = ap₂ ◌||◌ p q ∙ sym (ap reads_source e)
