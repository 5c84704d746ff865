use Rattle.std.proofs.Common.{◌≡◌, ◌≤◌, ◌+◌, ◌-◌, length, take, vec_len}
use Rattle.pf_shelf.specs.Count.{raised}
use Rattle.pf_shelf.specs.Files.{Tells, bytes_at, IsAsBefore}
use Rattle.pf_shelf.proofs.all.read_all.Given as goal

abbrev pub invariant-turns : goal.invariant-turns
invariant-turns g l = record {
  within : l.at ≤ l.limit;
  in_file : l.at ≤ vec_len l.file;
  reached : Tells (g.S.Shelf.seen l.fn.shelf).told → l.at ≤ length (bytes_at (g.S.Shelf.seen l.fn.shelf).told l.name);
  bytes : Tells (g.S.Shelf.seen l.fn.shelf).told → take l.at l.file.items ≡ take l.at (bytes_at (g.S.Shelf.seen l.fn.shelf).told l.name);
  files : IsAsBefore (g.S.Shelf.seen l.fn.shelf).told (g.S.Shelf.seen l.shelf).told;
  taken : (g.S.Shelf.seen l.shelf).taken ≡ raised (g.S.Shelf.seen l.fn.shelf).taken l.at;
  read_faults : (g.S.Shelf.seen l.shelf).read_faults ≡ (g.S.Shelf.seen l.fn.shelf).read_faults;
  write_faults : (g.S.Shelf.seen l.shelf).write_faults ≡ (g.S.Shelf.seen l.fn.shelf).write_faults;
  misses : (g.S.Shelf.seen l.shelf).misses ≡ (g.S.Shelf.seen l.fn.shelf).misses;
}

abbrev pub decreases-turns : goal.decreases-turns
decreases-turns g l = l.limit + 1 - l.at
