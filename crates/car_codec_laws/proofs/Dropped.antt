-- What a request without a profile drops.
use Rattle.std.proofs.Common.{◌≡◌, Some, None, refl, ap}
use Rattle.session_words.specs.declared.limits.CarLimits.{CarLimits}
use Rattle.session_words.specs.declared.limits.CarLimits.TheVariants as limits
use Rattle.session_words.specs.declared.word.Ask.{Ask}
use Rattle.session_words.specs.declared.word.Ask.TheVariants as ask
use Rattle.written_words.specs.Back as written
use Rattle.car_spec.specs.Spelled.{dropped_limits, dropped_ask}
use Rattle.car_codec_rules.specs.Profiles.{HasNoProfile}

same_limits : (l : CarLimits) → written.dropped_car l ≡ dropped_limits l
same_limits (limits.Ac most_current least_current most_voltage) = refl
same_limits (limits.Dc ready soc current watts voltage) = refl

pub same_ask : (a : Ask) → HasNoProfile a → written.dropped_ask a ≡ dropped_ask a
same_ask (ask.SessionSetup car) h = refl
same_ask ask.ServiceDiscovery h = refl
same_ask (ask.ServiceDetail service) h = refl
same_ask (ask.PaymentSelection external services) h = refl
same_ask ask.Authorization h = refl
same_ask (ask.ChargeParameters mode l) h = ap (λ (x : CarLimits). ask.ChargeParameters mode x) (same_limits l)
same_ask (ask.CableCheck ready soc) h = refl
same_ask (ask.PreCharge ready soc voltage current) h = refl
same_ask (ask.PowerDelivery progress tuple None) h = refl
same_ask (ask.PowerDelivery progress tuple (Some profile)) h = absurd h
same_ask (ask.CurrentDemand ready soc voltage current) h = refl
same_ask ask.ChargingStatus h = refl
same_ask (ask.WeldingDetection ready soc) h = refl
same_ask (ask.SessionStop pause) h = refl
