-- Each arm gives the depth, at which its pixels are what is asked for; the last arm has the depth that is left.
use Rattle.std.proofs.Common.{◌≡◌, refl, rules, arith}
use Rattle.words.proofs.FillCallLaws.{filled_mapped}
use Rattle.sample.specs.Stored.{stored}
use Rattle.sample.specs.Colour.{shown}
use Rattle.fetch.specs.Fetched.{fetched}
use Rattle.fetch.proofs.CommonLaws.{masked_low}
use Rattle.fetch.proofs.FetchLaws.{last_depth, no_palette, two_bytes}
use Rattle.fetch.proofs.row.Goals as goal

pub returns-in-1 : goal.returns-in-1
unfolding fetched shown stored
returns-in-1 c =
    let p = c.mapped.ensures in
    filled_mapped _ _ _ _ p.long p.back (λ k h. let e = p.front k 0 0 h in rw c.in-1.is (search rules))

pub returns-in-4 : goal.returns-in-4
unfolding fetched shown stored
returns-in-4 c =
    let p = c.mapped-in-4.ensures in
    filled_mapped _ _ _ _ p.long p.back (λ k h. let e = p.front k 0 0 h in rw c.in-4.is (search rules))

pub returns-in-8 : goal.returns-in-8
unfolding fetched shown stored
returns-in-8 c =
    let p = c.mapped-in-8.ensures in
    filled_mapped _ _ _ _ p.long p.back (λ k h. let e = p.front k 0 0 h in rw c.in-8.is (search rules))

pub masked-requires-clause-in_row : goal.masked-requires-clause-in_row
masked-requires-clause-in_row c = rw c.in-16.is at c.requires.in_row

pub masked-requires-clause-sampled : goal.masked-requires-clause-sampled
masked-requires-clause-sampled c = c.requires.readable.sampled (omega arith)

pub returns-in-16 : goal.returns-in-16
returns-in-16 c = rw c.in-16.is (no_palette 16 _ _ _ _ _ _ refl c.masked.ensures)

pub returns-in-24 : goal.returns-in-24
unfolding fetched shown stored
returns-in-24 c =
    let p = c.mapped-in-24.ensures in
    filled_mapped _ _ _ _ p.long p.back
    (λ k h. let e = p.front k 0 0 h in rw (c.requires.readable.bytes c.in-24.is, c.in-24.is) (search (rules, masked_low)))

pub row32-requires-clause-in_row : goal.row32-requires-clause-in_row
row32-requires-clause-in_row c =
    let e : c.args.bits ≡ 32 = search last_depth in
    rw e at c.requires.in_row

pub row32-requires-clause-sampled : goal.row32-requires-clause-sampled
row32-requires-clause-sampled c =
    let e : c.args.bits ≡ 32 = search last_depth in
    c.requires.readable.sampled (omega arith)

pub returns-in_default : goal.returns-in_default
returns-in_default c =
    let e : c.args.bits ≡ 32 = search last_depth in
    rw e (no_palette 32 _ _ _ _ _ _ refl c.row32.ensures)

pub masked-requires-clause-whole : goal.masked-requires-clause-whole
masked-requires-clause-whole c = two_bytes
