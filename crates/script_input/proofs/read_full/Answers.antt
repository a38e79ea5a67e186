-- A read takes the stream's next bytes to the place behind those that came before.
use Rattle.std.proofs.Common.{rules, arith, ◌≡◌, ℕ, ◌+◌, ◌≤◌, List, [], ◌++◌, length, take, None, Some, refl, sym, ap, ◌∙◌, subst, append_assoc, length-take-le}
use Rattle.std.specs.Prelude.{Option}
use Rattle.std.specs.Io.KnownBytes.{Consumes}
use borrow.Rule.Slice.PartMut.{put_mid, post_of}
use lib.Seq.{take_at, drop_at, take-add, take-append-le}
use Rattle.script_input.proofs.read_full.Goals as goal

none : (a : Option (List ℕ)) → Consumes a a []
none None = tt
none (Some xs) = refl

both : (a b c : Option (List ℕ)) (xs ys : List ℕ) → Consumes a b xs → Consumes b c ys → Consumes a c (xs ++ ys)
both None b c xs ys f g = tt
both (Some a) None c xs ys f g = absurd f
both (Some a) (Some b) None xs ys f g = absurd g
both (Some a) (Some b) (Some c) xs ys f g = f ∙ ap (λ (l : List ℕ). xs ++ l) g ∙ sym (append_assoc xs ys c)

more : (a b c : Option (List ℕ)) (at k n end : ℕ) (xs ys : List ℕ) → at ≤ length xs → n ≤ length ys → end ≡ at + n
    → Consumes a b (take at xs) → Consumes b c (take n ys) → Consumes a c (take end (put_mid at k xs ys))
more a b c at k n end xs ys within fits e f g = subst (Consumes a c) joined (both a b c (take at xs) (take n ys) f g)
  where
    rest : List ℕ
    rest = ys ++ post_of at k xs

    long : length (take at xs) ≡ at
    long = length-take-le at xs within

    joined : take at xs ++ take n ys ≡ take end (put_mid at k xs ys)
    joined = cc (e, take-add at n (put_mid at k xs ys), take_at (take at xs) rest at long, drop_at (take at xs) rest at long, take-append-le n ys (post_of at k xs) fits)

pub loop-done-init : goal.loop-done-init
loop-done-init g c = record { bound = search rules; bytes = none _ }

pub loop-done-preserved : goal.loop-done-preserved
loop-done-preserved g c = record {
  bound = search rules;
  bytes = more _ _ _ _ _ _ _ _ _ c.loop-done.invariant.bound c.in_ok-n.ensures.bound.0 refl c.loop-done.invariant.bytes c.in_ok-n.ensures.bytes.0;
}

pub returns-then-n-eq0-clause-bytes : goal.returns-then-n-eq0-clause-bytes
returns-then-n-eq0-clause-bytes g c =
    more _ _ _ _ _ _ _ _ _ c.loop-done.invariant.bound c.in_ok-n.ensures.bound.0 (omega arith) c.loop-done.invariant.bytes c.in_ok-n.ensures.bytes.0
