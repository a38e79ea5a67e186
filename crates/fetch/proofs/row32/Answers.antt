-- Masks that are a byte each show the stored bytes as they are.
use Rattle.std.proofs.Common.{◌≡◌, rules}
use Rattle.words.proofs.FillCallLaws.{filled_mapped}
use Rattle.sample.specs.Stored.{stored}
use Rattle.sample.specs.Colour.{byte_masks, shown}
use Rattle.fetch.specs.Fetched.{fetched}
use Rattle.fetch.proofs.CommonLaws.{masked_opaque, masked_whole}
use Rattle.fetch.proofs.FetchLaws.{same_masks_lem, four_bytes}
use Rattle.fetch.proofs.row32.Goals as goal

pub returns-then-eq : goal.returns-then-eq
unfolding fetched shown stored
returns-then-eq c =
    let e : c.args.m ≡ byte_masks 0 = same_masks_lem _ _ (search rules) in
    let p = c.mapped.ensures in
    filled_mapped _ _ _ _ p.long p.back (λ k h. let f = p.front k 0 0 h in rw e (search (rules, masked_opaque)))

pub returns-then-eq-2 : goal.returns-then-eq-2
unfolding fetched shown stored
returns-then-eq-2 c =
    let e : c.args.m ≡ byte_masks 0xFF000000 = same_masks_lem _ _ (search rules) in
    let p = c.mapped-then-eq-2.ensures in
    filled_mapped _ _ _ _ p.long p.back (λ k h. let f = p.front k 0 0 h in rw e (search (rules, masked_whole)))

pub masked-requires-clause-whole : goal.masked-requires-clause-whole
masked-requires-clause-whole c = four_bytes
