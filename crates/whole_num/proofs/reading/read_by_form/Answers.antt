use Rattle.whole_num.proofs.Numerals.{reads_number, alone_reads}
use Rattle.whole_num.proofs.reading.read_by_form.Goals as goal

pub returns-clause-reads : goal.returns-clause-reads
returns-clause-reads c = reads_number

pub returns-clause-alone : goal.returns-clause-alone
returns-clause-alone c = alone_reads
