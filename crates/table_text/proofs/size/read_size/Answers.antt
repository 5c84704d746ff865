use Rattle.std.proofs.Common.{Vec, Global}
use Rattle.row_text.specs.Rows.{Reads}
use Rattle.row_text.proofs.Reading.{reads-value, reads-first_fault, reads-refused}
use Rattle.pf_lex.specs.Text.{text_lines}
use Rattle.pf_model.specs.declared.Band.{Band}
use Rattle.table_text.specs.Size.{bands_on, size_of}
use Rattle.table_text.specs.declared.fault.TableErr.TheVariants as fault
use Rattle.table_text.proofs.size.read_size.Goals as goal

pub returns-clause-value : goal.returns-clause-value
unfolding size_of
returns-clause-value c =
    let reads : Reads fault.Memory (λ (bands : Vec Band Global). bands.items) c.bands.result (bands_on 0 (text_lines c.args.bytes.now)) = rw c.new.ensures.left at c.bands.ensures.reads in
    reads-value fault.Memory (λ (bands : Vec Band Global). bands.items) c.bands.result _ reads

pub returns-clause-first_fault : goal.returns-clause-first_fault
unfolding size_of
returns-clause-first_fault c =
    let reads : Reads fault.Memory (λ (bands : Vec Band Global). bands.items) c.bands.result (bands_on 0 (text_lines c.args.bytes.now)) = rw c.new.ensures.left at c.bands.ensures.reads in
    reads-first_fault fault.Memory (λ (bands : Vec Band Global). bands.items) c.bands.result _ reads

pub returns-clause-refused : goal.returns-clause-refused
unfolding size_of
returns-clause-refused c =
    let reads : Reads fault.Memory (λ (bands : Vec Band Global). bands.items) c.bands.result (bands_on 0 (text_lines c.args.bytes.now)) = rw c.new.ensures.left at c.bands.ensures.reads in
    reads-refused fault.Memory (λ (bands : Vec Band Global). bands.items) c.bands.result _ reads
