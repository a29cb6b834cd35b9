use Rattle.std.proofs.Common.{rules, nat_lt}
use Rattle.std.proofs.lemmas.List.Sorted.{IsPartitionPoint-from_clause, IsPartitionedBy-ltb}
use Rattle.q4_table.specs.declared.marks.Mark.{Mark}
use Rattle.q4_table.proofs.Marking.{source, sources_order}
use Rattle.q4_table.proofs.Places.{place_from}
use Rattle.q4_table.proofs.marks.Marks.place_of.Goals as goal

pub returns : goal.returns
returns c =
    let marks = c.self.inside.marks.items in
    let parted = IsPartitionPoint-from_clause (λ (m : Mark). nat_lt m.source c.args.source) c.deref.result.now c.partition_point.result c.partition_point.ensures.partitioned
    (rw c.deref.ensures.value (IsPartitionedBy-ltb source marks c.args.source (sources_order marks c.self.invariant.rise))) (λ f a r g. search rules) in
    rw (← c.self.view_is, ← c.deref.ensures.value) (place_from source c.args.source c.partition_point.result c.deref.result.now c.partition_point.ensures.bound parted)
