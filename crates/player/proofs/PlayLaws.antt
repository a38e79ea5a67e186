-- The ways through `play`, test by test as the code makes them. Assumes nothing.
use mathlib.Core.Path.{◌≡◌, refl, sym, ap, ap₂, ◌∙◌, subst}
use mathlib.Core.Bool.{Bool, true, false, true≢false}
use mathlib.Core.List.{List, [], ◌∷◌, ◌++◌, append-nil}
use Prim.Native.Nat.{ℕ, zero, suc, ◌+◌, ◌-◌, ◌*◌, ◌/◌, ◌≤◌, ◌<◌}
use native.Mathlib.Nat.{mul_comm, mul-le-mul}
use native.Mathlib.Omega.{arith}
use lib.ListN.{length}
use lib.Seq.{sets}
use lib.Dec.{ltb}
use borrow.Author.Tests.{lt-ltb, le-ltb}
use Rattle.words.specs.Status.{or_else}
use Rattle.words.proofs.ListLaws.{sets_append}
use Rattle.words.proofs.ChoiceLaws.{cond_true, cond_false}
use Rattle.judge.specs.declared.Record.{Record}
use Rattle.judge.specs.Record.{record_of}
use Rattle.std.specs.Prelude.{Result, Ok, Err}
use Rattle.judge.specs.Check.{status_of, settled, check_of, status_in}
use Rattle.judge.proofs.CheckLaws.{check_number}
use Rattle.judge.proofs.AcceptedLaws.{accepted as accepted_is}
use Rattle.region.specs.declared.Target.{Target}
use Rattle.region.specs.declared.Rectangle.{Rectangle}
use Rattle.region.specs.Target.{target_of}
use Rattle.region.proofs.TargetLaws.{OnBoth, inside, length_points}
use Rattle.journal.specs.Drawing.{Work}
use Rattle.journal.specs.Records.{mark, stride, entry_bytes, bytes_of, saved, closing}
use Rattle.journal.proofs.RecordLaws.{length_bytes, bytes_append, length_saved}
use Rattle.memory.specs.Memory.{memory, Outcome, outcome, settle, limits}
use Rattle.memory.specs.Playing.{counted, drawn_by, appended, played, full_status, play_of}
use Rattle.memory.proofs.LimitLaws.{passed}
use Rattle.meaning.specs.declared.Terms.{Terms}
use Rattle.meaning.specs.Meaning.{meaning_in, meaning_of, cover_in, work_by, work_of}
use Rattle.draw.specs.declared.Plan.{Plan}
use Rattle.draw.specs.Ready.{Drawn}
use Rattle.player.specs.Calls.{play_with, work, play_outcome, accepted_outcome}

-- ---- whatever is drawn

module _ (w : ℕ) (k : Work) (s j : List ℕ) (u p : ℕ) (e : counted k ≡ p) where
  no_room : length j / stride - u < p + 1 → outcome 14 0 (memory s j u) ≡ accepted_outcome w k (memory s j u)
  unfolding full_status
  no_room l = ap (λ (r : ℕ). settle r (memory s j u) (outcome 0 (counted k) (played w k (memory s j u))))
      (sym (cond_true (ltb (length j / stride - u) (counted k + 1)) 14 0 (lt-ltb (length j / stride - u) (counted k + 1) (omega (arith, e)))))

  -- the pixels' records, and the closing one behind them
  journal_is : (j1 j2 : List ℕ) → j1 ≡ sets j (u * stride) (bytes_of (saved w k.paint k.points s))
      → j2 ≡ sets j1 ((u + p) * stride) (entry_bytes mark p k.kind) → j2 ≡ sets j (u * stride) (bytes_of (appended w k s))
  unfolding appended bytes_of
  journal_is j1 j2 q r =
      let b : List ℕ = bytes_of (saved w k.paint k.points s) in
      let n : length b ≡ p * stride =
      length_bytes (saved w k.paint k.points s) ∙ ap (λ (m : ℕ). m * stride) (length_saved w k.paint k.points s ∙ e) in
      r ∙ (λ t. sets (q t) ((u + p) * stride) (entry_bytes mark (sym e t) k.kind))
      ∙ sym (sets_append j (u * stride) ((u + p) * stride) b (entry_bytes mark (counted k) k.kind) (omega (arith, n)))
      ∙ ap (sets j (u * stride))
      (ap (λ (l : List ℕ). b ++ l) (sym (append-nil (entry_bytes mark (counted k) k.kind)))
      ∙ sym (bytes_append (saved w k.paint k.points s) (closing (counted k) k.kind ∷ [])))

  drawn_is : p + 1 ≤ length j / stride - u → (s1 j1 j2 : List ℕ) → s1 ≡ drawn_by w k s
      → j1 ≡ sets j (u * stride) (bytes_of (saved w k.paint k.points s)) → j2 ≡ sets j1 ((u + p) * stride) (entry_bytes mark p k.kind)
      → outcome 0 p (memory s1 j2 (u + p + 1)) ≡ accepted_outcome w k (memory s j u)
  unfolding full_status played
  drawn_is l s1 j1 j2 es ej ek =
      let n : u + p + 1 ≡ u + (counted k + 1) = omega (arith, e) in
      (λ t. outcome 0 (sym e t) (memory (es t) (journal_is j1 j2 ej ek t) (n t)))
      ∙ ap (λ (r : ℕ). settle r (memory s j u) (outcome 0 (counted k) (played w k (memory s j u))))
      (sym (cond_false (ltb (length j / stride - u) (counted k + 1)) 14 0 (le-ltb (length j / stride - u) (counted k + 1) (omega (arith, e)))))

-- ---- an accepted record

-- a clipped target has no more pixels than the largest surface
pub pixels_few : (w h a b u : ℕ) (clip : Rectangle) (n : Record) (t : Target) → limits w h a b u ≡ 0
    → t ≡ target_of w h clip n.bounds n.x n.y n.cx n.cy → t.columns.count * t.rows.count ≤ 16777216
pixels_few w h a b u clip n t f e =
    let on = subst (OnBoth w h n.cx n.cy) (sym e) (inside w h clip n.bounds n.x n.y n.cx n.cy) in
    let sides = passed w h a b u f in
    let columns : t.columns.count ≤ 4096 = omega (arith, on.columns.most, sides.wide.1) in
    let lines : t.rows.count ≤ 4096 = omega (arith, on.rows.most, sides.high.1) in
    mul-le-mul columns lines

module _ (w h : ℕ) (s j : List ℕ) (u : ℕ) (r : List ℕ) (n : Record) (o : Terms) (t : Target)
    (f : limits w h (length s) (length j) u ≡ 0) (e : t ≡ target_of w h o.clip n.bounds n.x n.y n.cx n.cy) where
  abbrev work_on : Target → Work
  work_on t = work_by (cover_in t) (meaning_in r n) o.brush

  work_is : work_on t ≡ work_of w h (meaning_in r n) o
  unfolding work_of
  work_is = ap work_on e

  count_is : counted (work_on t) ≡ t.columns.count * t.rows.count
  count_is = length_points t ∙ mul_comm t.rows.count t.columns.count

  pub play_full : length j / stride - u < t.columns.count * t.rows.count + 1
      → outcome 14 0 (memory s j u) ≡ accepted_outcome w (work_of w h (meaning_in r n) o) (memory s j u)
  play_full l = no_room w (work_on t) s j u _ count_is l ∙ ap (λ (k : Work). accepted_outcome w k (memory s j u)) work_is

  -- the rows are drawn by the plan that the code makes
  abbrev plan : Plan
  plan = record { width = w; at = u; «record» = n; target = t; brush = o.brush }

  pub play_drawn : t.columns.count * t.rows.count + 1 ≤ length j / stride - u → (s1 j1 j2 : List ℕ) → Drawn r plan s j s1 j1
      → j2 ≡ sets j1 ((u + t.columns.count * t.rows.count) * stride) (entry_bytes mark (t.columns.count * t.rows.count) n.kind)
      → outcome 0 (t.columns.count * t.rows.count) (memory s1 j2 (u + t.columns.count * t.rows.count + 1))
      ≡ accepted_outcome w (work_of w h (meaning_in r n) o) (memory s j u)
  play_drawn l s1 j1 j2 rows ek =
      drawn_is w (work_on t) s j u _ count_is l s1 j1 j2 rows.0 rows.1 ek ∙ ap (λ (k : Work). accepted_outcome w k (memory s j u)) work_is

-- ---- the whole play

abbrev is_refused : Result Record ℕ → Bool
is_refused (Ok n) = false
is_refused (Err k) = true

-- a refused record's status is no 0
refused_some : (k status : ℕ) (n : Record) → Err k ≡ settled status n → (status ≡ k) × (k ≡ 0 → ⊥)
refused_some k zero n e = absurd (true≢false (ap is_refused e))
refused_some k (suc status) n e = let q = ap status_in e in (sym q, λ z. omega (arith, q))

module _ (w h : ℕ) (s j : List ℕ) (u : ℕ) (r : List ℕ) (o : Terms) where
  -- the play by the statuses of the lent memory and of the record
  abbrev settled_by : (limit reading : ℕ) → Outcome
  settled_by limit reading =
      settle (or_else limit (or_else reading (full_status (work w h (play_with r o)) (memory s j u)))) (memory s j u)
      (outcome 0 (counted (work w h (play_with r o))) (played w (work w h (play_with r o)) (memory s j u)))

  by_memory : (k reading : ℕ) → (k ≡ 0 → ⊥) → outcome k 0 (memory s j u) ≡ settled_by k reading
  by_memory zero reading z = absurd (z refl)
  by_memory (suc k) reading z = refl

  by_reading : (k : ℕ) → (k ≡ 0 → ⊥) → outcome k 0 (memory s j u) ≡ settled_by 0 k
  by_reading zero z = absurd (z refl)
  by_reading (suc k) z = refl

  play_is : settled_by (limits w h (length s) (length j) u) (status_of r) ≡ play_outcome w h (play_with r o) (memory s j u)
  unfolding play_outcome play_of
  play_is = refl

  module _ (b : ℕ) (eb : b ≡ limits w h (length s) (length j) u) where
    pub play_limits : (b ≡ 0 → ⊥) → outcome b 0 (memory s j u) ≡ play_outcome w h (play_with r o) (memory s j u)
    play_limits z = by_memory b (status_of r) z ∙ ap (λ (k : ℕ). settled_by k (status_of r)) eb ∙ play_is

    module _ (z : b ≡ 0) (v : Result Record ℕ) (ev : v ≡ check_of r) where
      pub play_refused : (k : ℕ) → v ≡ Err k → outcome k 0 (memory s j u) ≡ play_outcome w h (play_with r o) (memory s j u)
      unfolding check_of
      play_refused k q =
          let some = refused_some k (status_of r) (record_of r) (sym q ∙ ev) in
          by_reading k some.1 ∙ ap₂ settled_by (sym z ∙ eb) (sym some.0) ∙ play_is

      pub play_accepted : (n : Record) (r' : Outcome) → v ≡ Ok n → r' ≡ accepted_outcome w (work_of w h (meaning_in r n) o) (memory s j u)
          → r' ≡ play_outcome w h (play_with r o) (memory s j u)
      unfolding work meaning_of
      play_accepted n r' q p =
          let m : n ≡ record_of r = (accepted_is r n (sym q ∙ ev)).0 in
          let x : 0 ≡ status_of r = ap status_in (sym q ∙ ev) ∙ check_number r in
          p ∙ ap (λ (n : Record). accepted_outcome w (work_of w h (meaning_in r n) o) (memory s j u)) m ∙ ap₂ settled_by (sym z ∙ eb) x ∙ play_is
