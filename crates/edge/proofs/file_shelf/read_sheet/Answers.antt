use Rattle.std.proofs.Common.{◌<◌, length, arith}
use Rattle.edge.proofs.WholeLemmas.{whole_below}
use Rattle.edge.proofs.file_shelf.read_sheet.Goals as goal

pub returns-in-Ok-clause-whole : goal.returns-in-Ok-clause-whole
returns-in-Ok-clause-whole g c =
    let short : length c.read_to_end.new.buf.items < 67108865 = omega arith in
    let cut = rw (c.take.ensures.limit, c.take.ensures.inner, c.new-bytes.ensures.items) at c.in-Ok.ensures.bytes in
    whole_below (g.R.Read.remaining c.args.file) 67108865 c.read_to_end.new.buf.items short cut
