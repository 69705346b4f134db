-- Own: what a message that is written of a word reads as: the word, but for the watts that a Value and its Multiplier drop.
use Rattle.std.specs.Option.{option_map}
use Rattle.session_words.specs.declared.limits.CarLimits.{CarLimits}
use Rattle.session_words.specs.declared.limits.CarLimits.TheVariants as car
use Rattle.session_words.specs.declared.word.Ask.{Ask}
use Rattle.session_words.specs.declared.word.Ask.TheVariants as ask
use Rattle.session_words.specs.declared.word.Word.{Word}
use Rattle.session_words.specs.declared.word.Word.TheVariants as word
use Rattle.post_spec.specs.Spelled.{dropped, read_back}

abbrev pub dropped_car : CarLimits → CarLimits
dropped_car (car.Ac most_current least_current most_voltage) = car.Ac most_current least_current most_voltage
dropped_car (car.Dc ready soc current watts voltage) = car.Dc ready soc current (option_map dropped watts) voltage

abbrev pub dropped_ask : Ask → Ask
dropped_ask (ask.ChargeParameters mode limits) = ask.ChargeParameters mode (dropped_car limits)
dropped_ask (ask.PowerDelivery progress tuple profile) = ask.PowerDelivery progress tuple (option_map dropped profile)
dropped_ask other = other

-- the word that a written one reads as
abbrev pub word_back : Word → Word
word_back (word.Request request) = word.Request (record request { ask = dropped_ask request.ask })
word_back (word.Reply reply) = word.Reply (read_back reply)
word_back word.Nothing = word.Nothing
