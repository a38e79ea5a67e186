-- The table that status 8 let pass lies in the header part.
use mathlib.Core.Path.{◌∙◌}
use Prim.Native.Nat.{◌+◌, ◌*◌, ◌≤◌}
use native.Mathlib.Omega.{arith}
use lib.ListN.{length}
use Rattle.dib.proofs.HeaderLaws.{passed_fields, entries_bound}
use Rattle.picture.proofs.TableLaws.{entries_in, table_in, table_palette}
use borrow.Author.Rules.{rules}
use Rattle.picture.proofs.header_palette.Goals as goal

pub slice_bounds-read-count : goal.slice_bounds-read-count
slice_bounds-read-count c =
    omega (arith, entries_in c.args.header.now c.args.h c.requires _ _ c.table_start-from.ensures.0 c.shown_entries-n.ensures.0)

pub slice_bounds-read-start : goal.slice_bounds-read-start
slice_bounds-read-start c =
    let n = c.shown_entries-n in
    let from = c.table_start-from in
    let h : from.result + 4 * n.result ≤ length c.args.header.now =
    entries_in c.args.header.now c.args.h c.requires _ _ from.ensures.0 n.ensures.0 in
    search rules

pub read-requires : goal.read-requires
read-requires c =
    let n = c.shown_entries-n in
    let few = entries_bound c.args.h (passed_fields _ c.args.h c.requires) in
    let h = entries_in c.args.header.now c.args.h c.requires _ _ c.table_start-from.ensures.0 n.ensures.0 in
    (omega (arith, n.ensures.1, few), table_in c.args.header.now _ _ h)

pub returns : goal.returns
returns c =
    let n = c.shown_entries-n in
    let e = table_palette c.args.header.now c.args.h c.requires _ _ c.table_start-from.ensures.0 n.ensures.0 in
    (c.read.ensures.0 ∙ e, c.read.ensures.1)
