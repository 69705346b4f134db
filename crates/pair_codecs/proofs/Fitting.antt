-- The codecs of both ends fit together.
use Rattle.car_codecs.proofs.SiteLawful as station
use Rattle.car_codecs.proofs.Lawful as vehicle
use Rattle.matched_pairs.specs.PipeRuns.{AreFit}
use Rattle.pair_readings.specs.Codecs.{AreMutual}
use Rattle.pair_negotiation.proofs.Beginning.{pairs_begin}
use Rattle.pair_codecs.specs.Codecs.{post_codecs, car_codecs, SessionsBegin}
use Rattle.pair_codecs.proofs.Agreed.{agree_on_shared}

pub are_mutual : AreMutual post_codecs car_codecs
are_mutual = record {
  to_post = λ dialect payload word reads. reads;
  to_car = λ dialect payload word reads. reads;
  requests = vehicle.reads_back;
  replies = station.reads_back;
  of_post = station.are_determined;
  of_car = vehicle.are_determined;
}

pub are_fit : AreFit post_codecs car_codecs
are_fit = record { readings = are_mutual; agree = agree_on_shared }

pub sessions_begin : SessionsBegin
sessions_begin = pairs_begin post_codecs car_codecs are_mutual agree_on_shared
