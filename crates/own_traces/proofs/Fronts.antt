-- What a post saw up to an entry of a past.
use Rattle.std.proofs.Common.{◌≡◌, ℕ, max, ◌==◌, Bool, true, false, ◌||◌, if◌then◌else◌, List, [], ◌∷◌, ◌++◌, refl, ap, ◌∙◌}
use Rattle.std.specs.List.{list_any}
use Rattle.std.proofs.lemmas.List.{append_assoc}
use Rattle.charge_world.specs.declared.entry.Entry.{Entry}
use Rattle.charge_world.specs.declared.entry.Entry.TheVariants as entry
use Rattle.charge_world.specs.declared.ports.Order.TheVariants as order
use Rattle.post_spec.specs.Steps.{Event, Act, Give, Send, Answer, End, Seen, Heard, Did, moment, event_at, seen}
use Rattle.told_pasts.specs.Checks.{is_heard, is_act_of, is_open, opens, in_block, before_block, HearingFollows}

-- ---- what was seen up to an entry ends what was seen later

abbrev pub EndsWith : List Seen → List Seen → Type 0
EndsWith xs rest = (more : List Seen) × (xs ≡ more ++ rest)

one_more : (b : Bool) (x : Seen) (xs rest : List Seen) → EndsWith xs rest → EndsWith (if b then x ∷ xs else xs) rest
one_more true x xs rest (more, e) = (x ∷ more, ap (λ (ys : List Seen). x ∷ ys) e)
one_more false x xs rest h = h

pub seen_more : (k : ℕ) (newer front : List Entry) → EndsWith (seen k (newer ++ front)) (seen k front)
seen_more k [] front = ([], refl)
seen_more k (entry.Heard heard bytes ∷ newer) front =
    one_more true (Heard (max (moment (newer ++ front)) heard.at) (event_at k heard.what bytes)) (seen k (newer ++ front)) (seen k front) (seen_more k newer front)
seen_more k (entry.Lost ∷ newer) front = seen_more k newer front
seen_more k (entry.Sent post bytes taken ∷ newer) front = one_more (post == k) (Did (Send bytes) taken) (seen k (newer ++ front)) (seen k front) (seen_more k newer front)
seen_more k (entry.Answered post bytes taken ∷ newer) front = one_more (post == k) (Did (Answer bytes) taken) (seen k (newer ++ front)) (seen k front) (seen_more k newer front)
seen_more k (entry.Drove post given taken ∷ newer) front = one_more (post == k) (Did (Give given) taken) (seen k (newer ++ front)) (seen k front) (seen_more k newer front)
seen_more k (entry.Dialed port taken ∷ newer) front = seen_more k newer front
seen_more k (entry.Ended post cause ∷ newer) front = one_more (post == k) (Did (End cause) true) (seen k (newer ++ front)) (seen k front) (seen_more k newer front)

-- ---- and a hearing behind it

pub record Follows (k : ℕ) (xs rest : List Seen) : Type 0 where
  pub more : List Seen
  pub at : ℕ
  pub event : Event
  pub is : xs ≡ more ++ Heard at event ∷ rest

pub followed : (k : ℕ) (past behind front : List Entry) → past ≡ behind ++ front → HearingFollows behind → Follows k (seen k past) (seen k front)
followed k past behind front is (newer, heard, bytes, ends) =
    let whole : past ≡ newer ++ entry.Heard heard bytes ∷ front =
    is ∙ ap (λ (es : List Entry). es ++ front) ends ∙ append_assoc newer (entry.Heard heard bytes ∷ []) front in
    let r = seen_more k newer (entry.Heard heard bytes ∷ front) in
    record { more = r.0; at = max (moment front) heard.at; event = event_at k heard.what bytes; is = ap (seen k) whole ∙ r.1 }

-- ---- an act

pub or_false : (a b : Bool) → (a || b) ≡ false → (a ≡ false) × (b ≡ false)
or_false true b h = cc
or_false false b h = (refl, h)

-- where no act of the post is in the newest block, what it saw last is that block's hearing
pub record Hears (k : ℕ) (past : List Entry) : Type 0 where
  pub at : ℕ
  pub event : Event
  pub is : seen k past ≡ Heard at event ∷ seen k (before_block past)

unless : (b : Bool) (k : ℕ) (x : Seen) (past : List Entry) (earlier : List Entry) → b ≡ false → seen k past ≡ seen k earlier → (if b then x ∷ seen k past else seen k past) ≡ seen k earlier
unless true k x past earlier n e = cc
unless false k x past earlier n e = e

skipped : (b : Bool) (k : ℕ) (x : Seen) (past : List Entry) → b ≡ false → Hears k past → (at : ℕ) × (event : Event) × ((if b then x ∷ seen k past else seen k past) ≡ Heard at event ∷ seen k (before_block past))
skipped true k x past n h = cc
skipped false k x past n h = (h.at, h.event, h.is)

pub hears : (k : ℕ) (past : List Entry) → list_any is_heard past ≡ true → list_any (is_act_of k) (in_block past) ≡ false → Hears k past
hears k [] begun none = cc
hears k (entry.Heard heard bytes ∷ past) begun none = record { at = max (moment past) heard.at; event = event_at k heard.what bytes; is = refl }
hears k (entry.Lost ∷ past) begun none =
    let r = hears k past begun none in
    record { at = r.at; event = r.event; is = r.is }
hears k (entry.Sent post bytes taken ∷ past) begun none =
    let n = or_false (post == k) (list_any (is_act_of k) (in_block past)) none in
    let r = skipped (post == k) k (Did (Send bytes) taken) past n.0 (hears k past begun n.1) in
    record { at = r.0; event = r.1; is = r.2 }
hears k (entry.Answered post bytes taken ∷ past) begun none =
    let n = or_false (post == k) (list_any (is_act_of k) (in_block past)) none in
    let r = skipped (post == k) k (Did (Answer bytes) taken) past n.0 (hears k past begun n.1) in
    record { at = r.0; event = r.1; is = r.2 }
hears k (entry.Drove post given taken ∷ past) begun none =
    let n = or_false (post == k) (list_any (is_act_of k) (in_block past)) none in
    let r = skipped (post == k) k (Did (Give given) taken) past n.0 (hears k past begun n.1) in
    record { at = r.0; event = r.1; is = r.2 }
hears k (entry.Dialed port taken ∷ past) begun none =
    let r = hears k past begun none in
    record { at = r.at; event = r.event; is = r.is }
hears k (entry.Ended post cause ∷ past) begun none =
    let n = or_false (post == k) (list_any (is_act_of k) (in_block past)) none in
    let r = skipped (post == k) k (Did (End cause) true) past n.0 (hears k past begun n.1) in
    record { at = r.0; event = r.1; is = r.2 }

-- an entry of the post is what it saw then, and an order to open opens
pub record Own (k : ℕ) (e : Entry) (earlier : List Entry) : Type 0 where
  pub act : Act
  pub taken : Bool
  pub is : seen k (e ∷ earlier) ≡ Did act taken ∷ seen k earlier
  pub opening : act ≡ Give order.Open → opens e ≡ true

differ : false ≡ true → ⊥
differ h = cc

pub own : (k : ℕ) (e : Entry) (earlier : List Entry) → is_act_of k e ≡ true → Own k e earlier
own k (entry.Heard heard bytes) earlier h = absurd (differ h)
own k entry.Lost earlier h = absurd (differ h)
own k (entry.Sent post bytes taken) earlier h = record { act = Send bytes; taken = taken; is = rw h refl; opening = λ e. cc }
own k (entry.Answered post bytes taken) earlier h = record { act = Answer bytes; taken = taken; is = rw h refl; opening = λ e. cc }
own k (entry.Drove post given taken) earlier h = record { act = Give given; taken = taken; is = rw h refl; opening = λ e. let same : given ≡ order.Open = cc in ap is_open same }
own k (entry.Dialed port taken) earlier h = absurd (differ h)
own k (entry.Ended post cause) earlier h = record { act = End cause; taken = true; is = rw h refl; opening = λ e. cc }
