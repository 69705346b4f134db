use Rattle.std.proofs.Common.{◌≡◌, ◌<◌, ℕ, zero, suc, true, false, ◌==◌, List, [], ◌∷◌, drop, Some, None, Ok, refl, sym, ap, subst, ◌∙◌, arith}
use Rattle.std.proofs.lemmas.Bool.Decides.{nat_tests}
use Rattle.charge_world.specs.declared.entry.Entry.{Entry}
use Rattle.charge_world.specs.declared.offer.Dialect.{Dialect}
use Rattle.charge_world.specs.declared.offer.Dialect.TheVariants as dialect
use Rattle.session_words.specs.declared.word.Reply.{Reply}
use Rattle.session_words.specs.declared.word.Request.{Request}
use Rattle.session_words.specs.declared.word.Word.TheVariants as word
use Rattle.v2gtp_frames.specs.Frames.{frame}
use Rattle.v2gtp_frames.specs.Reading as reading
use Rattle.post_spec.specs.Kinds.{asks_renegotiation}
use Rattle.car_spec.specs.Mandated.{is_near_target, IsPreCharged}
use Rattle.car_spec.specs.Past.{stream, said_at, IsAsked, IsTold}
use Rattle.car_examples.specs.ByBytes.{check, charge, far, spelled, counted, talked}
use Rattle.car_examples.proofs.closes_are_mandated.Goals as goal

other_place : (m place : ℕ) → m < place → (m == place) ≡ false
other_place m place h = grind (arith, nat_tests)

-- what was asked at a place
asked_as : (d : Dialect) (past : List Entry) (place : ℕ) (request : Request) (payload : List ℕ) → said_at place past ≡ Some (frame payload) → IsAsked counted d past place request → Some (word.Request request) ≡ spelled payload
asked_as d past place request payload e a =
    let f : Some (frame payload) ≡ Some (frame a.payload) = sym e ∙ a.said_is in
    let g : frame payload ≡ frame a.payload = cc in
    let p : payload ≡ a.payload = ap (λ (bytes : List ℕ). drop 8 bytes) g in
    a.request_is ∙ ap spelled (sym p)

none_later : (last : List ℕ) (n : ℕ) → said_at (suc (suc (suc n))) (talked last) ≡ None
none_later last n =
    let two : (2 == suc (suc (suc n))) ≡ false = other_place 2 (suc (suc (suc n))) (omega arith) in
    let one : (1 == suc (suc (suc n))) ≡ false = other_place 1 (suc (suc (suc n))) (omega arith) in
    let none : (0 == suc (suc (suc n))) ≡ false = other_place 0 (suc (suc (suc n))) (omega arith) in
    rw (two, one, none) refl

unasked : (d : Dialect) (last : List ℕ) (n : ℕ) (request : Request) → IsAsked counted d (talked last) (suc (suc (suc n))) request → ⊥
unasked d last n request a = let x : None ≡ Some (frame a.payload) = sym (none_later last n) ∙ a.said_is in cc

goes_on : (last : List ℕ) (later : ℕ) (request : Request) → 1 < later → IsAsked counted dialect.Iso (talked last) later request → asks_renegotiation request.ask ≡ false
goes_on last zero request l a = absurd (omega arith)
goes_on last (suc zero) request l a = absurd (omega arith)
goes_on last (suc (suc zero)) request l a =
    let x : Some (word.Request request) ≡ Some (word.Request charge) = asked_as dialect.Iso (talked last) 2 request (0 ∷ 0 ∷ 0 ∷ []) refl a in
    let y : charge ≡ request = cc in
    ap (λ (r : Request). asks_renegotiation r.ask) (sym y)
goes_on last (suc (suc (suc n))) request l a = absurd (unasked dialect.Iso last n request a)

pub returns-clause-near : goal.returns-clause-near
unfolding reading.whole_at
returns-clause-near c = record {
  dialect = dialect.Iso;
  chosen = record { payload = []; first = record { count = 0; whole = refl; payload_is = refl }; chosen = refl };
  prepared = record {
    checked = 1;
    check = _;
    check_reply = _;
    check_is = record {
      asked = record { payload = 0 ∷ []; said_is = refl; request_is = refl };
      told = record { payload = 0 ∷ 0 ∷ []; at_place = record { count = 2; whole = refl; payload_is = refl }; reply_is = refl };
      ok = tt;
    };
    cable_check = refl;
    finished = refl;
    charged = 2;
    charge = _;
    charge_reply = _;
    charge_is = record {
      asked = record { payload = 0 ∷ 0 ∷ 0 ∷ []; said_is = refl; request_is = refl };
      told = record { payload = 0 ∷ 0 ∷ 0 ∷ 0 ∷ []; at_place = record { count = 4; whole = refl; payload_is = refl }; reply_is = refl };
      ok = tt;
    };
    near = refl;
    in_order = omega arith;
    goes_on = goes_on (0 ∷ 0 ∷ 0 ∷ 0 ∷ []);
  };
}

abbrev far_off : List Entry
far_off = talked (0 ∷ 0 ∷ 0 ∷ 0 ∷ 0 ∷ [])

-- the reply to the pre-charge
told_far : (d : Dialect) (reply : Reply) → IsTold counted d far_off 2 reply → reply ≡ far
unfolding reading.whole_at
told_far d reply t =
    let w : Ok (Some 5) ≡ Ok (Some t.at_place.count) = t.at_place.whole in
    let n : 5 ≡ t.at_place.count = cc in
    let p : t.payload ≡ 0 ∷ 0 ∷ 0 ∷ 0 ∷ 0 ∷ [] = t.at_place.payload_is ∙ ap (λ (k : ℕ). reading.payload_at k (reading.behind_frames 2 (stream far_off))) (sym n) in
    let x : Some (word.Reply reply) ≡ Some (word.Reply far) = t.reply_is ∙ ap spelled p in
    cc

not_near : (d : Dialect) (place : ℕ) (request : Request) (reply : Reply) → IsAsked counted d far_off place request → IsTold counted d far_off place reply → is_near_target request.ask reply.tell ≡ true → ⊥
not_near d zero request reply a t h =
    let x : Some (word.Request request) ≡ None = asked_as d far_off 0 request [] refl a in cc
not_near d (suc zero) request reply a t h =
    let x : Some (word.Request request) ≡ Some (word.Request check) = asked_as d far_off 1 request (0 ∷ []) refl a in
    let y : request ≡ check = cc in
    let z : false ≡ true = subst (λ (r : Request). is_near_target r.ask reply.tell ≡ true) y h in cc
not_near d (suc (suc zero)) request reply a t h =
    let x : Some (word.Request request) ≡ Some (word.Request charge) = asked_as d far_off 2 request (0 ∷ 0 ∷ 0 ∷ []) refl a in
    let y : request ≡ charge = cc in
    let z : false ≡ true = subst (λ (r : Reply). is_near_target charge.ask r.tell ≡ true) (told_far d reply t) (subst (λ (r : Request). is_near_target r.ask reply.tell ≡ true) y h) in cc
not_near d (suc (suc (suc n))) request reply a t h = unasked d (0 ∷ 0 ∷ 0 ∷ 0 ∷ 0 ∷ []) n request a

pub returns-clause-far : goal.returns-clause-far
returns-clause-far c = λ m.
    let p : IsPreCharged counted m.dialect far_off = m.prepared in
    not_near m.dialect p.charged p.charge p.charge_reply p.charge_is.asked p.charge_is.told p.near

pub returns-clause-unheard : goal.returns-clause-unheard
unfolding reading.whole_at
returns-clause-unheard c = λ m.
    let w : Ok None ≡ Ok (Some m.chosen.first.count) = m.chosen.first.whole in cc
