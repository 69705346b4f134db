-- Own: what a contactor keeps after an event and after an order.
use Rattle.contactor.specs.Calls.{close, release, hears, Kept, after}
use Rattle.pilot_basic.specs.declared.words.BasicEvent.{BasicEvent}
use Rattle.pilot_basic.specs.declared.words.BasicEvent.TheVariants.{Offer, GoDigital, DigitalEnded, Pilot, Feedback, Tick}
use Rattle.pilot_basic.specs.declared.words.BasicOrder.{BasicOrder}
use Rattle.pilot_basic.specs.declared.words.BasicOrder.TheVariants.{Open, Close, Duty}

abbrev pub told : Kept → BasicEvent → Kept
told kept (Feedback closed) = after kept (hears closed)
told kept (Offer amps) = kept
told kept GoDigital = kept
told kept DigitalEnded = kept
told kept (Pilot state) = kept
told kept Tick = kept

abbrev pub driven : Kept → BasicOrder → Kept
driven kept Open = after kept release
driven kept Close = after kept close
driven kept (Duty d) = kept
