-- Each field is the definition's: what each call answers stands in its place.
use Rattle.reading.proofs.full.Goals as goal

pub returns : goal.returns
returns c =
    let p = c.args.p in
    let h = p.header in
    λ t. record {
      status = 0;
      header_at = p.bmi;
      header_len = p.bmi_len;
      view_at = p.bits;
      view_len = c.bits_needed.ensures t;
      table_at = c.table_start.ensures.0 t;
      colours = c.shown_entries.ensures.0 t;
      width = h.width;
      rows = c.magnitude.ensures t;
      layout = record { bits = h.bits; compression = h.compression; top_down = c.is_top_down.ensures t; masks = h.masks };
    }
