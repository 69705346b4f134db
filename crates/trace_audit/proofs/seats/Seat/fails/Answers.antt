use Rattle.trace_audit.proofs.seats.Seat.fails.Goals as goal

pub returns : goal.returns
returns g c site earlier behind own h place =
    c.fails.ensures site own.plan earlier behind h.steps own.steps h.so h.seat.are h.starting_is (record {
      begun_is = place.begun_is;
      ends_is = place.ends_is;
      last_is = place.last_is;
      alone_is = h.seat.alone_is;
      writes_is = h.writes_is;
      above_is = place.above_is;
    })
