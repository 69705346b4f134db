use Rattle.car_core.proofs.Laws.{driven_lawful}
use Rattle.car_core.proofs.lawful.law_of_cars.Goals as goal

pub returns : goal.returns
returns g c = driven_lawful _ (record {
  by_words = c.closes_by_words.ensures;
  by_bytes = c.closes_by_bytes.ensures g.met.C.LawfulCarCodec.reads_back g.met.C.LawfulCarCodec.determined;
  live = c.contactors_are_read.ensures;
  stops = c.ended_cars_are_silent.ensures;
  keeps = c.readings_are_kept.ensures;
  ends_open = c.runs_end_open.ensures;
})
