-- Who may say something next, and what is under way then: it stays so whatever happens.
use Rattle.std.proofs.Common.{◌≡◌, ℕ, true, List, [], ◌∷◌, ◌++◌, ◌≤◌, length, Option, Some, None, refl, ap, sym, subst, ◌∙◌}
use Rattle.std.proofs.lemmas.List.{append-nil}
use Rattle.v2gtp_frames.specs.Frames.{frame}
use Rattle.session_words.specs.declared.plan.CarPlan.{CarPlan}
use Rattle.session_words.specs.declared.plan.PostPlan.{PostPlan}
use Rattle.post_spec.specs.Codecs.{Codecs}
use Rattle.post_spec.specs.Sessions.{brought}
use Rattle.post_spec.specs.Steps.{Event, Act, Reading}
use Rattle.station_spec.specs.States.{State, Spoken}
use Rattle.station_spec.specs.Deciding.{decided}
use Rattle.station_spec.specs.Hearing.{arrival, hearing}
use Rattle.station_spec.specs.Judging.{wanted, read, filled, IsRead}
use Rattle.station_spec.specs.Acting.{acted}
use Rattle.station_spec.specs.Next.{Acts}
use Rattle.car_spec.specs.Codecs as car_codecs
use Rattle.car_spec.specs.Steps as car_steps
use Rattle.car_spec.specs.States as car_states
use Rattle.car_spec.specs.Deciding as car_deciding
use Rattle.car_spec.specs.Hearing as car_hearing
use Rattle.car_spec.specs.Judging as car_judging
use Rattle.car_spec.specs.Acting as car_acting
use Rattle.car_spec.specs.Next as car_next
use Rattle.pipe_spec.specs.Histories.{station_says, car_says}
use Rattle.pipe_laws.proofs.Messages.{Carries, HasRead, Loses, carries_loses, read_loses, carries_whole, more, carries_piece}
use Rattle.pipe_laws.proofs.Station as station
use Rattle.pipe_laws.proofs.Station.{IsSound, IsSilent, unread, Done, Doing, SaysNothing, SaysReply}
use Rattle.pipe_laws.proofs.Car as car

-- The right to say something is the car's, on its way to the station with what it said, the station's, or on its way back.
pub data Right (most : ℕ) (s : State) (c : car_states.State) (to_s to_c : List ℕ) : Type 0 where
  IsOfCar : to_s ≡ [] → to_c ≡ [] → HasRead (unread s) → HasRead (car.unread c) → IsSilent s → Right most s c to_s to_c
  IsOnTheWay : to_c ≡ [] → HasRead (car.unread c) → IsSilent s → car.IsSilent c → Carries most (unread s) to_s → Right most s c to_s to_c
  IsOfStation : to_s ≡ [] → to_c ≡ [] → HasRead (unread s) → HasRead (car.unread c) → car.IsSilent c → Right most s c to_s to_c
  IsOnTheWayBack : to_s ≡ [] → HasRead (unread s) → IsSilent s → car.IsSilent c → Carries most (car.unread c) to_c → Right most s c to_s to_c

some_none : {A : Type 0} (a : A) → Some a ≡ None → ⊥
some_none a e = cc

-- ---- the station does something

-- what it reads for that
pub record Filled (most : ℕ) (s : State) (c : car_states.State) (to_s to_c : List ℕ) : Type 0 where
  pub sound : IsSound s
  pub right : Right most s c to_s to_c

unfilled : (most : ℕ) (plan : PostPlan) (s : State) (c : car_states.State) (to_s to_c : List ℕ) (reading : Option Reading) → reading ≡ None → Filled most s c to_s to_c
    → Filled most (read plan s reading) c to_s to_c
unfilled most plan s c to_s to_c reading e f = subst (λ (x : Option Reading). Filled most (read plan s x) c to_s to_c) (sym e) f

read_by : (most : ℕ) (cs : Codecs) (plan : PostPlan) (Shows : ℕ → ℕ → Type 0) (s : State) (c : car_states.State) (to_s to_c : List ℕ) (reading : Option Reading) → most ≤ 65544 → IsSound s
    → IsRead cs plan Shows s (wanted s) reading → Right most s c to_s to_c → Filled most (read plan s reading) c to_s to_c
read_by most cs plan Shows s c to_s to_c reading m f r (IsOfCar a b u v q) =
    unfilled most plan s c to_s to_c reading (station.reads_nothing cs plan Shows s reading f u r) (record { sound = f; right = IsOfCar a b u v q })
read_by most cs plan Shows s c to_s to_c None m f r (IsOnTheWay b v q p w) = record { sound = f; right = IsOnTheWay b v q p w }
read_by most cs plan Shows s c to_s to_c (Some reading) m f r (IsOnTheWay b v q p w) =
    let i = station.word_read most plan s reading to_s m f (station.word_of cs plan Shows s reading r) w in
    let all = i.read in
    record { sound = all.0; right = IsOfStation i.comes b all.1 v p }
read_by most cs plan Shows s c to_s to_c reading m f r (IsOfStation a b u v p) =
    unfilled most plan s c to_s to_c reading (station.reads_nothing cs plan Shows s reading f u r) (record { sound = f; right = IsOfStation a b u v p })
read_by most cs plan Shows s c to_s to_c reading m f r (IsOnTheWayBack a u q p w) =
    unfilled most plan s c to_s to_c reading (station.reads_nothing cs plan Shows s reading f u r) (record { sound = f; right = IsOnTheWayBack a u q p w })

decided_right : (most : ℕ) (plan : PostPlan) (s : State) (c : car_states.State) (to_s to_c : List ℕ) → Right most s c to_s to_c → Right most (decided plan s) c to_s to_c
decided_right most plan s c to_s to_c (IsOfCar a b u v q) =
    IsOfCar a b (subst HasRead (sym (station.decided_unread plan s)) u) v (station.decided_silent plan s q)
decided_right most plan s c to_s to_c (IsOnTheWay b v q p w) =
    IsOnTheWay b v (station.decided_silent plan s q) p (subst (λ (x : Option (List ℕ)). Carries most x to_s) (sym (station.decided_unread plan s)) w)
decided_right most plan s c to_s to_c (IsOfStation a b u v p) =
    IsOfStation a b (subst HasRead (sym (station.decided_unread plan s)) u) v p
decided_right most plan s c to_s to_c (IsOnTheWayBack a u q p w) =
    IsOnTheWayBack a (subst HasRead (sym (station.decided_unread plan s)) u) (station.decided_silent plan s q) p w

-- it says nothing
quiet_act : (most : ℕ) (s t : State) (c : car_states.State) (to_s to_c : List ℕ) → Loses (unread s) (unread t) → (IsSilent s → IsSilent t) → Right most s c to_s to_c → Right most t c to_s to_c
quiet_act most s t c to_s to_c l k (IsOfCar a b u v q) = IsOfCar a b (read_loses (unread s) (unread t) l u) v (k q)
quiet_act most s t c to_s to_c l k (IsOnTheWay b v q p w) = IsOnTheWay b v (k q) p (carries_loses most (unread s) (unread t) to_s l w)
quiet_act most s t c to_s to_c l k (IsOfStation a b u v p) = IsOfStation a b (read_loses (unread s) (unread t) l u) v p
quiet_act most s t c to_s to_c l k (IsOnTheWayBack a u q p w) = IsOnTheWayBack a (read_loses (unread s) (unread t) l u) (k q) p w

-- it says something: a reply, where it is its turn
replies : (most : ℕ) (s t : State) (c : car_states.State) (to_s to_c : List ℕ) (payload : List ℕ) (spoken : Spoken) → s.agenda.reply ≡ Some spoken → length (frame payload) ≤ most
    → Loses (unread s) (unread t) → IsSilent t → Right most s c to_s to_c → Right most t c to_s (to_c ++ frame payload)
replies most s t c to_s to_c payload spoken e m l k (IsOfCar a b u v q) = absurd (some_none spoken (sym e ∙ q.reply))
replies most s t c to_s to_c payload spoken e m l k (IsOnTheWay b v q p w) = absurd (some_none spoken (sym e ∙ q.reply))
replies most s t c to_s to_c payload spoken e m l k (IsOfStation a b u v p) =
    IsOnTheWayBack a (read_loses (unread s) (unread t) l u) k p
    (subst (λ (x : List ℕ). Carries most (car.unread c) (x ++ frame payload)) (sym b) (carries_whole most (car.unread c) payload v m))
replies most s t c to_s to_c payload spoken e m l k (IsOnTheWayBack a u q p w) = absurd (some_none spoken (sym e ∙ q.reply))

does_by : (most : ℕ) (s : State) (c : car_states.State) (to_s to_c : List ℕ) (act : Act) → length (station_says act) ≤ most → Loses (unread s) (unread (acted act true s)) → Doing s act
    → Right most s c to_s to_c → Right most (acted act true s) c to_s (to_c ++ station_says act)
does_by most s c to_s to_c act m l (SaysNothing n k) r =
    subst (λ (x : List ℕ). Right most (acted act true s) c to_s x) (sym (ap (λ (x : List ℕ). to_c ++ x) n ∙ append-nil to_c))
    (quiet_act most s (acted act true s) c to_s to_c l k r)
does_by most s c to_s to_c act m l (SaysReply payload spoken is e k) r =
    let says : station_says act ≡ frame payload = ap station_says is in
    let short : length (frame payload) ≤ most = subst (λ (x : List ℕ). length x ≤ most) says m in
    subst (λ (x : List ℕ). Right most (acted act true s) c to_s (to_c ++ x)) (sym says) (replies most s (acted act true s) c to_s to_c payload spoken e short l k r)

pub record StationDid (most : ℕ) (s : State) (c : car_states.State) (to_s to_c : List ℕ) (act : Act) : Type 0 where
  pub sound : IsSound s
  pub right : Right most s c to_s to_c
  pub ends : station.EndsSo act s

pub station_does : (most : ℕ) (cs : Codecs) (plan : PostPlan) (Shows : ℕ → ℕ → Type 0) (s : State) (c : car_states.State) (to_s to_c : List ℕ) (reading : Option Reading) (act : Act)
    → most ≤ 65544 → length (station_says act) ≤ most → IsSound s → Right most s c to_s to_c → Acts cs plan Shows s reading act true
    → StationDid most (acted act true (filled plan reading s)) c to_s (to_c ++ station_says act) act
station_does most cs plan Shows s c to_s to_c reading act m l f r i =
    let b : Filled most (filled plan reading s) c to_s to_c =
    read_by most cs plan Shows (decided plan s) c to_s to_c reading m (station.decided_sound plan s f) i.read (decided_right most plan s c to_s to_c r) in
    let d : Done (filled plan reading s) act = station.done_by cs (filled plan reading s) i.todo act b.sound i.acts i.done in
    record { sound = d.sound; right = does_by most (filled plan reading s) c to_s to_c act l d.keeps d.doing b.right; ends = d.ends }

-- a session that is gone stays so
pub gone_does : (cs : Codecs) (plan : PostPlan) (Shows : ℕ → ℕ → Type 0) (s : State) (reading : Option Reading) (act : Act) → IsSound s → station.IsGone s
    → Acts cs plan Shows s reading act true → station.IsGone (acted act true (filled plan reading s))
gone_does cs plan Shows s reading act f g i =
    let g' : station.IsGone (decided plan s) = station.decided_gone plan s g in
    let e : reading ≡ None = station.reads_nothing cs plan Shows (decided plan s) reading (station.decided_sound plan s f) (station.gone_read (decided plan s) g') i.read in
    station.gone_stays act (filled plan reading s) (subst (λ (x : Option Reading). station.IsGone (read plan (decided plan s) x)) (sym e) g')

-- ---- the station hears something

nil_left : (a b : List ℕ) → a ++ b ≡ [] → a ≡ []
nil_left [] b e = refl
nil_left (x ∷ a) b e = cc

nil_right : (a b : List ℕ) → a ++ b ≡ [] → b ≡ []
nil_right [] b e = e
nil_right (x ∷ a) b e = cc

read_more : (o : Option (List ℕ)) (b : List ℕ) → b ≡ [] → HasRead o → HasRead (more b o)
read_more None b e h = tt
read_more (Some u) b e h = ap (λ (x : List ℕ). u ++ x) e ∙ append-nil u ∙ h

pub station_hears : (most : ℕ) (event : Event) (at : ℕ) (s : State) (c : car_states.State) (to_s rest to_c : List ℕ) → arrival event ≡ None → to_s ≡ brought event ++ rest
    → Right most s c to_s to_c → Right most (hearing at event s) c rest to_c
station_hears most event at s c to_s rest to_c n e (IsOfCar a b u v q) =
    let none : brought event ++ rest ≡ [] = sym e ∙ a in
    IsOfCar (nil_right (brought event) rest none) b
    (subst HasRead (sym (station.heard_unread event at s n)) (read_more (unread s) (brought event) (nil_left (brought event) rest none) u)) v (station.heard_silent event at s q)
station_hears most event at s c to_s rest to_c n e (IsOnTheWay b v q p w) =
    IsOnTheWay b v (station.heard_silent event at s q) p
    (subst (λ (x : Option (List ℕ)). Carries most x rest) (sym (station.heard_unread event at s n)) (carries_piece most (unread s) to_s (brought event) rest e w))
station_hears most event at s c to_s rest to_c n e (IsOfStation a b u v p) =
    let none : brought event ++ rest ≡ [] = sym e ∙ a in
    IsOfStation (nil_right (brought event) rest none) b
    (subst HasRead (sym (station.heard_unread event at s n)) (read_more (unread s) (brought event) (nil_left (brought event) rest none) u)) v p
station_hears most event at s c to_s rest to_c n e (IsOnTheWayBack a u q p w) =
    let none : brought event ++ rest ≡ [] = sym e ∙ a in
    IsOnTheWayBack (nil_right (brought event) rest none)
    (subst HasRead (sym (station.heard_unread event at s n)) (read_more (unread s) (brought event) (nil_left (brought event) rest none) u)) (station.heard_silent event at s q) p w

-- ---- the car hears something

pub car_hears : (most : ℕ) (event : Event) (at : ℕ) (s : State) (c : car_states.State) (to_s to_c rest : List ℕ) → car.IsPieceOrClock event → to_c ≡ brought event ++ rest
    → Right most s c to_s to_c → Right most s (car_hearing.hearing at event c) to_s rest
car_hears most event at s c to_s to_c rest n e (IsOfCar a b u v q) =
    let none : brought event ++ rest ≡ [] = sym e ∙ b in
    IsOfCar a (nil_right (brought event) rest none) u
    (subst HasRead (sym (car.heard_unread event at c n)) (read_more (car.unread c) (brought event) (nil_left (brought event) rest none) v)) q
car_hears most event at s c to_s to_c rest n e (IsOnTheWay b v q p w) =
    let none : brought event ++ rest ≡ [] = sym e ∙ b in
    IsOnTheWay (nil_right (brought event) rest none)
    (subst HasRead (sym (car.heard_unread event at c n)) (read_more (car.unread c) (brought event) (nil_left (brought event) rest none) v)) q (car.heard_silent event at c n p) w
car_hears most event at s c to_s to_c rest n e (IsOfStation a b u v p) =
    let none : brought event ++ rest ≡ [] = sym e ∙ b in
    IsOfStation a (nil_right (brought event) rest none) u
    (subst HasRead (sym (car.heard_unread event at c n)) (read_more (car.unread c) (brought event) (nil_left (brought event) rest none) v)) (car.heard_silent event at c n p)
car_hears most event at s c to_s to_c rest n e (IsOnTheWayBack a u q p w) =
    IsOnTheWayBack a u q (car.heard_silent event at c n p)
    (subst (λ (x : Option (List ℕ)). Carries most x rest) (sym (car.heard_unread event at c n)) (carries_piece most (car.unread c) to_c (brought event) rest e w))

-- a car that has ended hears nothing, but a piece of what is under way to it is gone
pub lost_to_car : (most : ℕ) (s : State) (c : car_states.State) (to_s to_c bytes rest : List ℕ) → c.session ≡ None → to_c ≡ bytes ++ rest → Right most s c to_s to_c → Right most s c to_s rest
lost_to_car most s c to_s to_c bytes rest n e (IsOfCar a b u v q) = IsOfCar a (nil_right bytes rest (sym e ∙ b)) u v q
lost_to_car most s c to_s to_c bytes rest n e (IsOnTheWay b v q p w) = IsOnTheWay (nil_right bytes rest (sym e ∙ b)) v q p w
lost_to_car most s c to_s to_c bytes rest n e (IsOfStation a b u v p) = IsOfStation a (nil_right bytes rest (sym e ∙ b)) u v p
lost_to_car most s c to_s to_c bytes rest n e (IsOnTheWayBack a u q p w) =
    let none : car.unread c ≡ None = ap car.unread_in n in
    IsOnTheWayBack a u q p (subst (λ (x : Option (List ℕ)). Carries most x rest) (sym none)
    (carries_piece most None to_c bytes rest e (subst (λ (x : Option (List ℕ)). Carries most x to_c) none w)))

-- ---- the car reads and does something

pub car_decided_right : (most : ℕ) (plan : CarPlan) (s : State) (c : car_states.State) (to_s to_c : List ℕ) → Right most s c to_s to_c → Right most s (car_deciding.decided plan c) to_s to_c
car_decided_right most plan s c to_s to_c (IsOfCar a b u v q) = IsOfCar a b u (subst HasRead (sym (car.decided_unread plan c)) v) q
car_decided_right most plan s c to_s to_c (IsOnTheWay b v q p w) = IsOnTheWay b (subst HasRead (sym (car.decided_unread plan c)) v) q (car.decided_silent plan c p) w
car_decided_right most plan s c to_s to_c (IsOfStation a b u v p) = IsOfStation a b u (subst HasRead (sym (car.decided_unread plan c)) v) (car.decided_silent plan c p)
car_decided_right most plan s c to_s to_c (IsOnTheWayBack a u q p w) =
    IsOnTheWayBack a u q (car.decided_silent plan c p) (subst (λ (x : Option (List ℕ)). Carries most x to_c) (sym (car.decided_unread plan c)) w)

pub record CarRead (most : ℕ) (s : State) (c : car_states.State) (to_s to_c : List ℕ) : Type 0 where
  pub sound : car.IsSound c
  pub right : Right most s c to_s to_c

reads_by : (most : ℕ) (cs : car_codecs.Codecs) (plan : CarPlan) (s : State) (c : car_states.State) (to_s to_c : List ℕ) (w : car_codecs.Judged) → most ≤ 65544
    → car_judging.IsRead cs plan (car_judging.wanted c) w → Right most s c to_s to_c → CarRead most s (car_judging.read plan c w) to_s to_c
reads_by most cs plan s c to_s to_c w m r (IsOfCar a b u v q) = absurd (car.reads_nothing cs plan c w v r)
reads_by most cs plan s c to_s to_c w m r (IsOnTheWay b v q p x) = absurd (car.reads_nothing cs plan c w v r)
reads_by most cs plan s c to_s to_c w m r (IsOfStation a b u v p) = absurd (car.reads_nothing cs plan c w v r)
reads_by most cs plan s c to_s to_c w m r (IsOnTheWayBack a u q p x) =
    let i = car.word_read most plan c w to_c m (car.word_of cs plan c w r) x in
    let all = i.read in
    record { sound = all.0; right = IsOfCar a i.comes u all.1 q }

pub car_reads : (most : ℕ) (cs : car_codecs.Codecs) (plan : CarPlan) (s : State) (c : car_states.State) (to_s to_c : List ℕ) (w : car_codecs.Judged) → most ≤ 65544
    → Right most s c to_s to_c → car_next.MayRead cs plan c w → CarRead most s (car_judging.read plan (car_deciding.decided plan c) w) to_s to_c
car_reads most cs plan s c to_s to_c w m r i = reads_by most cs plan s (car_deciding.decided plan c) to_s to_c w m i (car_decided_right most plan s c to_s to_c r)

car_quiet : (most : ℕ) (s : State) (c d : car_states.State) (to_s to_c : List ℕ) → Loses (car.unread c) (car.unread d) → (car.IsSilent c → car.IsSilent d) → Right most s c to_s to_c → Right most s d to_s to_c
car_quiet most s c d to_s to_c l k (IsOfCar a b u v q) = IsOfCar a b u (read_loses (car.unread c) (car.unread d) l v) q
car_quiet most s c d to_s to_c l k (IsOnTheWay b v q p w) = IsOnTheWay b (read_loses (car.unread c) (car.unread d) l v) q (k p) w
car_quiet most s c d to_s to_c l k (IsOfStation a b u v p) = IsOfStation a b u (read_loses (car.unread c) (car.unread d) l v) (k p)
car_quiet most s c d to_s to_c l k (IsOnTheWayBack a u q p w) = IsOnTheWayBack a u q (k p) (carries_loses most (car.unread c) (car.unread d) to_c l w)

car_asks : (most : ℕ) (s : State) (c d : car_states.State) (to_s to_c : List ℕ) (payload : List ℕ) (spoken : car_steps.Spoken) → c.agenda.spoken ≡ Some spoken → length (frame payload) ≤ most
    → Loses (car.unread c) (car.unread d) → car.IsSilent d → Right most s c to_s to_c → Right most s d (to_s ++ frame payload) to_c
car_asks most s c d to_s to_c payload spoken e m l k (IsOfCar a b u v q) =
    IsOnTheWay b (read_loses (car.unread c) (car.unread d) l v) q k
    (subst (λ (x : List ℕ). Carries most (unread s) (x ++ frame payload)) (sym a) (carries_whole most (unread s) payload u m))
car_asks most s c d to_s to_c payload spoken e m l k (IsOnTheWay b v q p w) = absurd (some_none spoken (sym e ∙ p.spoken))
car_asks most s c d to_s to_c payload spoken e m l k (IsOfStation a b u v p) = absurd (some_none spoken (sym e ∙ p.spoken))
car_asks most s c d to_s to_c payload spoken e m l k (IsOnTheWayBack a u q p w) = absurd (some_none spoken (sym e ∙ p.spoken))

car_does_by : (most : ℕ) (s : State) (c : car_states.State) (to_s to_c : List ℕ) (act : car_steps.Act) → length (car_says act) ≤ most
    → Loses (car.unread c) (car.unread (car_acting.acted act true c)) → car.Doing c act → Right most s c to_s to_c → Right most s (car_acting.acted act true c) (to_s ++ car_says act) to_c
car_does_by most s c to_s to_c act m l (car.SaysNothing n k) r =
    subst (λ (x : List ℕ). Right most s (car_acting.acted act true c) x to_c) (sym (ap (λ (x : List ℕ). to_s ++ x) n ∙ append-nil to_s))
    (car_quiet most s c (car_acting.acted act true c) to_s to_c l k r)
car_does_by most s c to_s to_c act m l (car.Says payload spoken is e k) r =
    let says : car_says act ≡ frame payload = ap car_says is in
    let short : length (frame payload) ≤ most = subst (λ (x : List ℕ). length x ≤ most) says m in
    subst (λ (x : List ℕ). Right most s (car_acting.acted act true c) (to_s ++ x) to_c) (sym says) (car_asks most s c (car_acting.acted act true c) to_s to_c payload spoken e short l k r)

pub record CarDid (most : ℕ) (s : State) (c : car_states.State) (to_s to_c : List ℕ) (act : car_steps.Act) : Type 0 where
  pub sound : car.IsSound c
  pub right : Right most s c to_s to_c
  pub ends : car.EndsSo act c

pub car_does : (most : ℕ) (cs : car_codecs.Codecs) (plan : CarPlan) (s : State) (c : car_states.State) (to_s to_c : List ℕ) (act : car_steps.Act) → length (car_says act) ≤ most
    → car.IsSound c → Right most s c to_s to_c → car_next.MayAct cs plan c act true
    → CarDid most s (car_acting.acted act true (car_deciding.decided plan c)) (to_s ++ car_says act) to_c act
car_does most cs plan s c to_s to_c act l f r i =
    let d : car.Done (car_deciding.decided plan c) act = car.done_by cs plan (car_deciding.decided plan c) i.todo act (car.decided_sound plan c f) i.acts i.done in
    record {
      sound = d.sound;
      right = car_does_by most s (car_deciding.decided plan c) to_s to_c act l d.keeps d.doing (car_decided_right most plan s c to_s to_c r);
      ends = d.ends;
    }
