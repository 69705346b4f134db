use Rattle.exi_bits.proofs.Shortest.{counts_more, counts_all, counts_few}
use Rattle.exi_bits.proofs.room.long_octet_count.Goals as goal

pub loop-rest-preserved : goal.loop-rest-preserved
loop-rest-preserved c = record {
  counted = counts_more c.args.value c.loop-rest.rest c.loop-rest.count c.loop-rest-test.true c.loop-rest.invariant.counted;
  few = counts_few c.args.value c.loop-rest.rest c.loop-rest.count c.loop-rest-test.true c.loop-rest.invariant.counted;
}

pub returns-clause-count : goal.returns-clause-count
returns-clause-count c = counts_all c.args.value c.loop-rest.rest c.loop-rest.count c.loop-rest-test.false c.loop-rest.invariant.counted
