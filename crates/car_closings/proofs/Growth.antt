-- What is read off a past stays, as the past goes on.
use Rattle.std.proofs.Common.{◌≡◌, ◌<◌, ℕ, ◌+◌, Bool, true, false, ◌==◌, List, [], ◌∷◌, ◌++◌, Some, refl, sym, subst, ◌∙◌, append-nil, arith}
use Rattle.std.proofs.lemmas.Bool.Decides.{nat_tests}
use Rattle.charge_world.specs.declared.entry.Entry.{Entry}
use Rattle.charge_world.specs.declared.entry.Entry.TheVariants as entry
use Rattle.charge_world.specs.declared.heard.What.{What}
use Rattle.charge_world.specs.declared.offer.Dialect.{Dialect}
use Rattle.charge_world.specs.Outside.{IsOfPosts}
use Rattle.session_words.specs.declared.word.Reply.{Reply}
use Rattle.session_words.specs.declared.word.Request.{Request}
use Rattle.post_spec.specs.Sessions.{brought}
use Rattle.post_spec.specs.Steps.{event_at}
use Rattle.post_spec.specs.Words.{IsPayloadAt}
use Rattle.car_spec.specs.Codecs.{Codecs}
use Rattle.car_spec.specs.Past.{came, stream, said, said_at, IsChosen, IsAsked, IsTold}
use Rattle.car_spec.specs.Steps.{Act, Seek, Dial, Give, Say, End, entry_of}
use Rattle.safe_runs.proofs.Growth.{AreWhole, payload_stays}
use Rattle.car_closings.proofs.Heard.{heard_as, stream_heard}

-- the stream goes on, and what was said stays at its place
pub record GoesOnTo (old new : List Entry) : Type 0 where
  pub more : List ℕ
  pub stream_is : stream new ≡ stream old ++ more
  pub said_stays : (place : ℕ) (bytes : List ℕ) → said_at place old ≡ Some bytes → said_at place new ≡ Some bytes

-- what was said at a place stands below the next one
within_here : (m place : ℕ) (b : Bool) → (m == place) ≡ b → (b ≡ false → place < m) → place < m + 1
within_here m place true e f = grind (arith, nat_tests)
within_here m place false e f = let l : place < m = f refl in omega arith

pub said_within : (past : List Entry) (place : ℕ) (bytes : List ℕ) → said_at place past ≡ Some bytes → place < said past
said_within [] place bytes h = cc
said_within (entry.Sent post own true ∷ past) place bytes h =
    within_here (said past) place _ refl (λ e. said_within past place bytes (rw e at h))
said_within (entry.Sent post own false ∷ past) place bytes h = said_within past place bytes h
said_within (entry.Heard heard own ∷ past) place bytes h = said_within past place bytes h
said_within (entry.Lost ∷ past) place bytes h = said_within past place bytes h
said_within (entry.Answered post own taken ∷ past) place bytes h = said_within past place bytes h
said_within (entry.Drove post order taken ∷ past) place bytes h = said_within past place bytes h
said_within (entry.Dialed port taken ∷ past) place bytes h = said_within past place bytes h
said_within (entry.Ended post cause ∷ past) place bytes h = said_within past place bytes h

other_place : (m place : ℕ) → place < m → (m == place) ≡ false
other_place m place h = grind (arith, nat_tests)

same_place : (m : ℕ) → (m == m) ≡ true
same_place m = grind (arith, nat_tests)

-- entries that are neither said nor a piece
pub same_past : (old : List Entry) (new : List Entry) → stream new ≡ stream old → ((place : ℕ) → said_at place new ≡ said_at place old) → GoesOnTo old new
same_past old new s t = record { more = []; stream_is = s ∙ sym (append-nil (stream old)); said_stays = λ place bytes h. t place ∙ h }

pub heard_more : (at : ℕ) (w : What) (bytes : List ℕ) (past : List Entry) → IsOfPosts 1 w → came past ≡ true → GoesOnTo past (heard_as at w bytes ∷ past)
heard_more at w bytes past o h = record { more = brought (event_at 1 w bytes); stream_is = stream_heard at w bytes past o h; said_stays = λ place own k. k }

pub said_more : (bytes : List ℕ) (past : List Entry) → GoesOnTo past (entry.Sent 1 bytes true ∷ past)
said_more bytes past = record {
  more = [];
  stream_is = sym (append-nil (stream past));
  said_stays = λ place own h. rw (other_place (said past) place (said_within past place own h)) h;
}

-- and its place is the next one
pub said_here : (bytes : List ℕ) (past : List Entry) (n : ℕ) → said past ≡ n → said_at n (entry.Sent 1 bytes true ∷ past) ≡ Some bytes
said_here bytes past n e = rw (← e) (rw (same_place (said past)) refl)

-- an act that isn't said, or wasn't taken
abbrev pub IsUnsaid : Act → Bool → Type 0
IsUnsaid (Say spoken bytes) true = ⊥
IsUnsaid other taken = Unit {0}

pub record Unsaid (past : List Entry) (a : Act) (taken : Bool) : Type 0 where
  pub more : GoesOnTo past (entry_of a taken ∷ past)
  pub said_is : said (entry_of a taken ∷ past) ≡ said past

pub unsaid : (past : List Entry) (a : Act) (taken : Bool) → IsUnsaid a taken → Unsaid past a taken
unsaid past (Seek d) taken u = record { more = same_past past _ refl (λ place. refl); said_is = refl }
unsaid past (Dial port) taken u = record { more = same_past past _ refl (λ place. refl); said_is = refl }
unsaid past (Give o) taken u = record { more = same_past past _ refl (λ place. refl); said_is = refl }
unsaid past (Say spoken bytes) true u = absurd u
unsaid past (Say spoken bytes) false u = record { more = same_past past _ refl (λ place. refl); said_is = refl }
unsaid past (End cause) taken u = record { more = same_past past _ refl (λ place. refl); said_is = refl }

-- what was asked and told
pub asked_stays : (c : Codecs) (d : Dialect) (old new : List Entry) (place : ℕ) (request : Request) → GoesOnTo old new → IsAsked c d old place request → IsAsked c d new place request
asked_stays c d old new place request g a = record { payload = a.payload; said_is = g.said_stays place _ a.said_is; request_is = a.request_is }

payload_at_stays : (old new : List Entry) (place : ℕ) (payload : List ℕ) → GoesOnTo old new → AreWhole place (stream old) → IsPayloadAt (stream old) place payload → IsPayloadAt (stream new) place payload
payload_at_stays old new place payload g w p = subst (λ (s : List ℕ). IsPayloadAt s place payload) (sym g.stream_is) (payload_stays place (stream old) g.more payload w p)

pub told_stays : (c : Codecs) (d : Dialect) (old new : List Entry) (place : ℕ) (reply : Reply) → GoesOnTo old new → AreWhole place (stream old) → IsTold c d old place reply → IsTold c d new place reply
told_stays c d old new place reply g w t = record { payload = t.payload; at_place = payload_at_stays old new place t.payload g w t.at_place; reply_is = t.reply_is }

pub chosen_stays : (c : Codecs) (offers : List Dialect) (old new : List Entry) (d : Dialect) → GoesOnTo old new → IsChosen c offers old d → IsChosen c offers new d
chosen_stays c offers old new d g k = record { payload = k.payload; first = payload_at_stays old new 0 k.payload g tt k.first; chosen = k.chosen }
