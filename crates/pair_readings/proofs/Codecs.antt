-- Each end hears what the other said.
use Rattle.std.proofs.Common.{◌≡◌, Some, ap, ◌∙◌}
use Rattle.session_words.specs.declared.word.Word.TheVariants as word
use Rattle.post_spec.specs.Codecs as post
use Rattle.post_spec.specs.Spelled as post_spelled
use Rattle.car_spec.specs.Codecs as car
use Rattle.car_spec.specs.Spelled as car_spelled
use Rattle.pair_readings.specs.Codecs.{RequestsAreHeard, RepliesAreHeard}

pub requests_are_heard : (c : post.Codecs) (cc : car.Codecs) → RequestsAreHeard c cc
requests_are_heard c cc m offers d request payload judged e j =
    let one : post_spelled.AreDetermined c = m.of_post in
    let same : j.0 ≡ Some (word.Request (car_spelled.read_back request)) =
    one.reads d payload j.0 (Some (word.Request (car_spelled.read_back request))) j.1
    (m.to_post d payload (Some (word.Request (car_spelled.read_back request))) (m.requests d request payload e)) in
    j.2 ∙ ap post.judged_word same

pub replies_are_heard : (c : post.Codecs) (cc : car.Codecs) → RepliesAreHeard c cc
replies_are_heard c cc m offers d reply payload judged e j =
    let one : car_spelled.AreDetermined cc = m.of_car in
    let same : j.0 ≡ Some (word.Reply (post_spelled.read_back reply)) =
    one.reads d payload j.0 (Some (word.Reply (post_spelled.read_back reply))) j.1
    (m.to_car d payload (Some (word.Reply (post_spelled.read_back reply))) (m.replies d reply payload e)) in
    j.2 ∙ ap car.judged_word same
