-- What is counted of a history, one happening more.
use Rattle.std.proofs.Common.{◌≡◌, ℕ, suc, ◌+◌, List, ◌∷◌, length, Option, refl, sym, ap, ◌∙◌, arith}
use Rattle.std.proofs.lemmas.List.Sums.{sum_by-cons}
use Rattle.charge_world.specs.declared.ports.Order.TheVariants as order
use Rattle.post_spec.specs.Steps.{Act, Give, Send, Answer, End, Reading}
use Rattle.post_spec.specs.Sessions.{replies}
use Rattle.site_posts.specs.Places.{capped}
use Rattle.car_spec.specs.Codecs.{Judged, Chosen, Told, WrongSide, Refused}
use Rattle.car_spec.specs.Steps as car
use Rattle.pipe_spec.specs.Histories.{Happening, StationDoes, CarReads, CarDoes, station_past}
use Rattle.pair_ends.specs.declared.tallies.PostTally.{PostTally}
use Rattle.pair_ends.specs.declared.tallies.CarTally.{CarTally}
use Rattle.pair_ends.specs.Tallies.{few, post_did, car_read, car_did}
use Rattle.pair_talk.specs.Keeping.{IsPostTally, IsCarTally}

pub capped_more : (x n k : ℕ) → x ≡ capped n → capped (x + k) ≡ capped (k + n)
capped_more x n k e = omega (arith, e)

pub capped_suc : (x n : ℕ) → x ≡ capped n → capped (x + 1) ≡ capped (suc n)
capped_suc x n e = omega (arith, e)

capped_none : (x n : ℕ) → x ≡ capped n → x ≡ capped (0 + n)
capped_none x n e = omega (arith, e)

few_more : (x n : ℕ) → x ≡ few n → few (x + 1) ≡ few (1 + n)
few_more x n e = omega (arith, e)

few_none : (x n : ℕ) → x ≡ few n → x ≡ few (0 + n)
few_none x n e = omega (arith, e)

pub post_did_at : (h : List Happening) (reading : Option Reading) (act : Act) (t : PostTally) → IsPostTally h t → IsPostTally (StationDoes reading act ∷ h) (post_did act t)
post_did_at h reading (Give order.Close) t k = record {
  hearings = k.hearings;
  cause = k.cause;
  replies = k.replies;
  bytes = k.bytes;
  closed = capped_more t.closed _ 1 k.closed;
  opened = capped_none t.opened _ k.opened;
}
post_did_at h reading (Give order.Open) t k = record {
  hearings = k.hearings;
  cause = k.cause;
  replies = k.replies;
  bytes = k.bytes;
  closed = capped_none t.closed _ k.closed;
  opened = capped_more t.opened _ 1 k.opened;
}
post_did_at h reading (Give (order.Limits voltage current watts)) t k = record {
  hearings = k.hearings;
  cause = k.cause;
  replies = k.replies;
  bytes = k.bytes;
  closed = capped_none t.closed _ k.closed;
  opened = capped_none t.opened _ k.opened;
}
post_did_at h reading (Send bytes) t k = record {
  hearings = k.hearings;
  cause = k.cause;
  replies = capped_suc t.replies _ k.replies;
  bytes = capped_more t.bytes _ (length bytes) k.bytes ∙ ap capped (sym (sum_by-cons length bytes (replies (station_past h))));
  closed = capped_none t.closed _ k.closed;
  opened = capped_none t.opened _ k.opened;
}
post_did_at h reading (Answer bytes) t k = record {
  hearings = k.hearings;
  cause = k.cause;
  replies = k.replies;
  bytes = k.bytes;
  closed = capped_none t.closed _ k.closed;
  opened = capped_none t.opened _ k.opened;
}
post_did_at h reading (End cause) t k = record {
  hearings = k.hearings;
  cause = refl;
  replies = k.replies;
  bytes = k.bytes;
  closed = capped_none t.closed _ k.closed;
  opened = capped_none t.opened _ k.opened;
}

pub car_read_at : (h : List Happening) (judged : Judged) (t : CarTally) → IsCarTally h t → IsCarTally (CarReads judged ∷ h) (car_read judged t)
car_read_at h (Chosen dialect) t k = record { hearings = k.hearings; exchanges_are = few_more t.exchanges _ k.exchanges_are; cause = k.cause }
car_read_at h (Told reply) t k = record { hearings = k.hearings; exchanges_are = few_more t.exchanges _ k.exchanges_are; cause = k.cause }
car_read_at h WrongSide t k = record { hearings = k.hearings; exchanges_are = few_none t.exchanges _ k.exchanges_are; cause = k.cause }
car_read_at h Refused t k = record { hearings = k.hearings; exchanges_are = few_none t.exchanges _ k.exchanges_are; cause = k.cause }

pub car_did_at : (h : List Happening) (act : car.Act) (t : CarTally) → IsCarTally h t → IsCarTally (CarDoes act ∷ h) (car_did act t)
car_did_at h (car.Seek datagram) t k = record { hearings = k.hearings; exchanges_are = k.exchanges_are; cause = k.cause }
car_did_at h (car.Dial port) t k = record { hearings = k.hearings; exchanges_are = k.exchanges_are; cause = k.cause }
car_did_at h (car.Give order) t k = record { hearings = k.hearings; exchanges_are = k.exchanges_are; cause = k.cause }
car_did_at h (car.Say spoken bytes) t k = record { hearings = k.hearings; exchanges_are = k.exchanges_are; cause = k.cause }
car_did_at h (car.End cause) t k = record { hearings = k.hearings; exchanges_are = k.exchanges_are; cause = refl }
