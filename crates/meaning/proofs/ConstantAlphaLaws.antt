-- A blend's constant alpha is a byte of its field, so it is below 256: of every list of numbers, bytes or not. Assumes nothing.
use mathlib.Core.Bool.{Bool, true, false, cond}
use mathlib.Core.List.{List}
use Prim.Native.Nat.{ℕ, ◌≤◌}
use native.Mathlib.Omega.{arith}
use lib.Dec.{eqb}
use Rattle.emr.specs.declared.Form.{Form}
use Rattle.emr.specs.declared.Form.TheVariants.{Blend, Rop4, Rop}
use Rattle.judge.specs.declared.Action.TheVariants as act
use Rattle.judge.specs.Operation.{constant_alpha, alpha_format, action_of}
use Rattle.judge.specs.Record.{record_of, row_in, fields_in}
use Rattle.composite.specs.declared.Rule.{Rule}
use Rattle.composite.specs.declared.Rule.TheVariants.{Blend0, Blend1, Raster, Masked}
use Rattle.meaning.specs.Meaning.{rule_of, meaning_of}

-- a rule's constant alpha, where it has one
abbrev pub ConstantInByte : Rule → Type 0
ConstantInByte (Blend0 c) = c ≤ 255
ConstantInByte (Blend1 c) = c ≤ 255
ConstantInByte (Raster op brush) = Unit {0}
ConstantInByte (Masked foreground background brush) = Unit {0}

of_blend : (t : Bool) (c brush : ℕ) → c ≤ 255 → ConstantInByte (rule_of (cond t (act.Blend1 c) (act.Blend0 c)) brush)
of_blend true c brush h = h
of_blend false c brush h = h

of_field : (form : Form) (field brush : ℕ) → ConstantInByte (rule_of (action_of form field) brush)
of_field Blend field brush = of_blend (eqb (alpha_format field) 1) (constant_alpha field) brush (omega arith)
of_field Rop4 field brush = tt
of_field Rop field brush = tt

pub constant_in_byte : (s : List ℕ) (brush : ℕ) → ConstantInByte ((meaning_of s).rule brush)
unfolding meaning_of record_of
constant_in_byte s brush = of_field (row_in s).form (fields_in s).operation brush
