use Rattle.row_text.specs.Rows.{Reads}
use Rattle.row_text.proofs.Reading.{reads-value, reads-first_fault, reads-refused}
use Rattle.pf_lex.specs.Text.{text_lines, lines_past}
use Rattle.table_text.specs.Part.{PartTable, parts_on, part_of}
use Rattle.table_text.specs.declared.fault.TableErr.TheVariants as fault
use Rattle.table_text.proofs.part.read_part.Goals as goal

pub returns-clause-value : goal.returns-clause-value
unfolding part_of
returns-clause-value c =
    let reads : Reads fault.Memory (λ (parts : PartTable). parts) c.partition.result (parts_on (lines_past c.args.bytes.now) c.args.triangles (text_lines c.args.bytes.now)) = rw (c.new.ensures.left, c.new.ensures.past) at c.partition.ensures.reads in
    reads-value fault.Memory (λ (parts : PartTable). parts) c.partition.result _ reads

pub returns-clause-first_fault : goal.returns-clause-first_fault
unfolding part_of
returns-clause-first_fault c =
    let reads : Reads fault.Memory (λ (parts : PartTable). parts) c.partition.result (parts_on (lines_past c.args.bytes.now) c.args.triangles (text_lines c.args.bytes.now)) = rw (c.new.ensures.left, c.new.ensures.past) at c.partition.ensures.reads in
    reads-first_fault fault.Memory (λ (parts : PartTable). parts) c.partition.result _ reads

pub returns-clause-refused : goal.returns-clause-refused
unfolding part_of
returns-clause-refused c =
    let reads : Reads fault.Memory (λ (parts : PartTable). parts) c.partition.result (parts_on (lines_past c.args.bytes.now) c.args.triangles (text_lines c.args.bytes.now)) = rw (c.new.ensures.left, c.new.ensures.past) at c.partition.ensures.reads in
    reads-refused fault.Memory (λ (parts : PartTable). parts) c.partition.result _ reads
