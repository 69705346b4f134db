-- What a post does next.
use Rattle.std.proofs.Common.{◌≡◌, ◌<◌, ◌≤◌, ℕ, ◌+◌, Bool, true, false, List, length, get_or, set, take, ◌∷◌, ◌++◌, Option, Some, None, refl, sym, ap, subst, ◌∙◌, arith}
use Rattle.std.proofs.Math.Seq.{take-append_seam}
use Rattle.std.specs.List.{All, AllWithin}
use Rattle.std.proofs.lemmas.List.{get_or-set_same, set-get_or, get_or_default}
use Rattle.std.proofs.lemmas.List.Elements.{All-set, AllWithin-more, at_read}
use Rattle.post_spec.specs.Codecs.{Codecs}
use Rattle.post_spec.specs.Steps.{Act, Reading}
use Rattle.post_spec.specs.Steps as steps
use Rattle.session_words.specs.declared.plan.PostPlan.{PostPlan}
use Rattle.session_words.specs.Causes.{number_of}
use Rattle.session_words.specs.declared.cause.EndCause.{EndCause}
use Rattle.session_words.specs.declared.word.Word.{Word}
use Rattle.charge_world.specs.declared.offer.Dialect.{Dialect}
use Rattle.station_spec.specs.States.{State, first, is_done, is_none}
use Rattle.station_spec.specs.States as states
use Rattle.station_spec.specs.Deciding.{decided}
use Rattle.station_spec.specs.Judging.{Payload, wanted, read, filled, IsRead}
use Rattle.station_spec.specs.Next.{IsQuiet, IsDone, Acts}
use Rattle.station_spec.specs.Acting.{acted}
use Rattle.secc_machine.specs.Resting.{StaysQuiet, ActsOnWords}
use Rattle.site_posts.specs.declared.place.Place.{Place}
use Rattle.site_posts.specs.Filling.{no_place, at, Fills}
use Rattle.site_posts.specs.Places.{Shares, filled_place, done_place, RestsAt}
use Rattle.site_posts.specs.Sound.{IsSound}
use Rattle.site_posts.specs.Work.{work}
use Rattle.site_posts.proofs.Words.{set_twice}
use Rattle.site_posts.proofs.Work.{acted_work}
use Rattle.site_posts.proofs.Sound.{acted_sound}
use Rattle.site_acts.specs.declared.deeds.Deed.{Deed}
use Rattle.site_acts.specs.declared.deeds.Deed.TheVariants.{Answer, Give, Send, Finish}
use Rattle.site_acts.specs.Deeds.{act_of, IsFramed, MayTake, IsDeed, NextDeed, Nexts, Prepares}
use Rattle.endpoint.specs.Knowing.{Known}
use Rattle.site_acts.specs.Serving.{IsReady, InBlock}
use Rattle.site_acts.proofs.Frame.{acted_one}
use Rattle.charge_world.specs.declared.entry.Entry.{Entry}
use Rattle.session_words.specs.declared.plan.SitePlan.{SitePlan}
use Rattle.station_spec.specs.Runs.{entry_of}

prepared_none : (c : Codecs) (t : Option states.Todo) (room : List ℕ) → Prepares c t room None → t ≡ None
prepared_none c None room h = refl
prepared_none c (Some todo) room h = absurd h

pub record Prepared (c : Codecs) (t : Option states.Todo) (room : List ℕ) (deed : Deed) : Type 0 where
  pub todo : states.Todo
  pub is : t ≡ Some todo
  pub done : IsDeed c room todo deed
  pub framed : IsFramed deed

prepared_some : (c : Codecs) (t : Option states.Todo) (room : List ℕ) (deed : Deed) → Prepares c t room (Some deed) → Prepared c t room deed
prepared_some c None room deed h = absurd h
prepared_some c (Some todo) room deed h = record { todo = todo; is = refl; done = h.0; framed = h.1 }

-- the place behind what was decided
filled_at : (c : Codecs) (limit : ℕ) (places new : List Place) (i : ℕ) (f : Fills c limit places i new) → i < length places → at new i ≡ filled_place f.reading (at places i)
filled_at c limit places new i f within = ap (λ (ps : List Place). at ps i) f.new_is ∙ get_or-set_same places i _ no_place within

-- nothing was read where nothing is to be done
nothing_read : (c : Codecs) (plan : PostPlan) (S : ℕ → ℕ → Type 0) (s : State) (w : Option Payload) (reading : Option Reading) → ActsOnWords → wanted s ≡ w → IsRead c plan S s w reading → first (read plan s reading).agenda ≡ None → (reading ≡ None) × (wanted s ≡ None)
nothing_read c plan S s None None law e r h = (refl, e)
nothing_read c plan S s None (Some reading) law e r h = absurd r
nothing_read c plan S s (Some p) None law e r h = absurd r
nothing_read c plan S s (Some p) (Some reading) law e r h =
    let busy : is_done (read plan s (Some reading)).agenda ≡ false = law plan s p reading e in
    let idle : is_done (read plan s (Some reading)).agenda ≡ true = ap is_none h in
    absurd (let f : false ≡ true = sym busy ∙ idle in cc)

pub nexts_none : (c : Codecs) (limit : ℕ) (places new : List Place) (i : ℕ) (room : List ℕ) → ActsOnWords → StaysQuiet → i < length places → Fills c limit places i new → Prepares c (first (at new i).post.agenda) room None → Nexts c limit places i room None new
nexts_none c limit places new i room words stays within f h =
    let p = at places i in
    let t = decided p.plan p.post in
    let idle : first (read p.plan t f.reading).agenda ≡ None =
    sym (ap (λ (q : Place). first q.post.agenda) (filled_at c limit places new i f within)) ∙ prepared_none c (first (at new i).post.agenda) room h in
    let n = nothing_read c p.plan (Shares limit places i) t (wanted t) f.reading words refl f.is_read idle in
    let none : first t.agenda ≡ None = subst (λ (r : Option Reading). first (read p.plan t r).agenda ≡ None) n.0 idle in
    let quiet : IsQuiet p.plan p.post = record { none = none; no_word = n.1 } in
    let same : t ≡ p.post = stays p.plan p.post quiet in
    (quiet, f.new_is ∙ ap (λ (r : Option Reading). set places i (filled_place r p)) n.0 ∙ ap (λ (s : State). set places i (record p { post = s })) same ∙ set-get_or places i no_place)

pub nexts_some : (c : Codecs) (limit : ℕ) (places new : List Place) (i : ℕ) (room : List ℕ) (deed : Deed) → i < length places → Fills c limit places i new → Prepares c (first (at new i).post.agenda) room (Some deed) → Nexts c limit places i room (Some deed) new
nexts_some c limit places new i room deed within f h =
    let w = prepared_some c (first (at new i).post.agenda) room deed h in
    record {
      reading = f.reading;
      is_read = f.is_read;
      todo = w.todo;
      first_is = sym (ap (λ (q : Place). first q.post.agenda) (filled_at c limit places new i f within)) ∙ w.is;
      done = w.done;
      framed = w.framed;
      new_is = f.new_is;
      sound = f.sound;
    }

-- the deed is an act
pub deed_done : (c : Codecs) (room : List ℕ) (todo : states.Todo) (deed : Deed) (taken : Bool) → IsDeed c room todo deed → MayTake deed taken → IsDone c todo (act_of room deed) taken
deed_done c room (states.Tell datagram) (Answer told) taken d m = ap steps.Answer d
deed_done c room (states.Tell datagram) (Give order) taken d m = absurd d
deed_done c room (states.Tell datagram) (Send n) taken d m = absurd d
deed_done c room (states.Tell datagram) (Finish cause) taken d m = absurd d
deed_done c room (states.Give order) (Answer told) taken d m = absurd d
deed_done c room (states.Give order) (Give given) taken d m = ap steps.Give d
deed_done c room (states.Give order) (Send n) taken d m = absurd d
deed_done c room (states.Give order) (Finish cause) taken d m = absurd d
deed_done c room (states.Say spoken) (Answer told) taken d m = absurd d
deed_done c room (states.Say spoken) (Give order) taken d m = absurd d
deed_done c room (states.Say spoken) (Send n) taken d m = (_, d, refl)
deed_done c room (states.Say spoken) (Finish cause) taken d m = absurd d
deed_done c room (states.Finish cause) (Answer told) taken d m = absurd d
deed_done c room (states.Finish cause) (Give order) taken d m = absurd d
deed_done c room (states.Finish cause) (Send n) taken d m = absurd d
deed_done c room (states.Finish cause) (Finish named) taken d m = (ap (λ (x : EndCause). steps.End (number_of x)) d, m)

-- less is left, and all stay ready
pub deed_work : (c : Codecs) (limit : ℕ) (places mid : List Place) (i : ℕ) (room : List ℕ) (deed : Deed) (taken : Bool) (new : List Place) → i < length places → (d : NextDeed c limit places i room deed mid) → MayTake deed taken
    → new ≡ set places i (done_place (act_of room deed) taken (filled_place d.reading (at places i))) → work (at new i).post < work (at places i).post
deed_work c limit places mid i room deed taken new within d m e =
    let p = at places i in
    let here : at new i ≡ done_place (act_of room deed) taken (filled_place d.reading p) = ap (λ (ps : List Place). at ps i) e ∙ get_or-set_same places i _ no_place within in
    subst (λ (q : Place). work q.post < work p.post) (sym here)
    (acted_work c p.plan (Shares limit places i) p.post d.reading (act_of room deed) taken (record { read = d.is_read; todo = d.todo; acts = d.first_is; done = deed_done c room d.todo deed taken d.done m }))

pub ready_set : (Reads : Dialect → List ℕ → Option Word → Type 0) (places : List Place) (i : ℕ) (reading : Option Reading) (a : Act) (taken : Bool) → All (IsReady Reads) places → i < length places → IsSound Reads (at places i).plan (filled_place reading (at places i)).post
    → All (IsReady Reads) (set places i (done_place a taken (filled_place reading (at places i))))
ready_set Reads places i reading a taken all within s =
    All-set (IsReady Reads) places i _ (record { plan = (all i no_place within).plan; sound = acted_sound Reads (at places i).plan a taken (filled_place reading (at places i)).post s }) all

pub nexts_by : (c : Codecs) (limit : ℕ) (places new : List Place) (i : ℕ) (room : List ℕ) (r : Option Deed) → ActsOnWords → StaysQuiet → i < length places → Fills c limit places i new → Prepares c (first (at new i).post.agenda) room r → Nexts c limit places i room r new
nexts_by c limit places new i room None words stays within f h = nexts_none c limit places new i room words stays within f h
nexts_by c limit places new i room (Some deed) words stays within f h = nexts_some c limit places new i room deed within f h

-- what a deed leaves of the places
pub done_set : (c : Codecs) (limit : ℕ) (places mid : List Place) (i : ℕ) (room : List ℕ) (deed : Deed) (taken : Bool) (x : Place) → i < length places → (d : NextDeed c limit places i room deed mid) → x ≡ done_place (act_of room deed) taken (at mid i)
    → set mid i x ≡ set places i (done_place (act_of room deed) taken (filled_place d.reading (at places i)))
done_set c limit places mid i room deed taken x within d e =
    let f = filled_place d.reading (at places i) in
    let here : at mid i ≡ f = ap (λ (ps : List Place). at ps i) d.new_is ∙ get_or-set_same places i f no_place within in
    let y = done_place (act_of room deed) taken f in
    ap (λ (ps : List Place). set ps i x) d.new_is ∙ set_twice places i f x ∙ ap (λ (q : Place). set places i q) (e ∙ ap (done_place (act_of room deed) taken) here)

pub deed_block : (c : Codecs) (site : SitePlan) (k : Known) (limit : ℕ) (places mid : List Place) (past : List Entry) (i : ℕ) (room : List ℕ) (deed : Deed) (taken : Bool) → site.limit ≡ limit → i < length places → AllWithin RestsAt places 0 i
    → (d : NextDeed c limit places i room deed mid) → MayTake deed taken → InBlock c site k places past → InBlock c site k (set places i (done_place (act_of room deed) taken (filled_place d.reading (at places i)))) (entry_of (i + 1) (act_of room deed) taken ∷ past)
deed_block c site k limit places mid past i room deed taken e within quiet d m b =
    let p = at places i in
    acted_one c site k places past i d.reading d.todo (act_of room deed) taken within quiet
    (subst (λ (l : ℕ). IsRead c p.plan (Shares l places i) (decided p.plan p.post) (wanted (decided p.plan p.post)) d.reading) (sym e) d.is_read) d.first_is (deed_done c room d.todo deed taken d.done m) b

at_same : (places : List Place) (i : ℕ) → i < length places → at places i ≡ get_or places i (at places i)
at_same places i within = get_or_default places i no_place (at places i) within

pub rests_more : (places new : List Place) (i : ℕ) → i < length places → new ≡ places → RestsAt (at places i) → AllWithin RestsAt places 0 i → AllWithin RestsAt new 0 (i + 1)
rests_more places new i within e rests quiet =
    subst (λ (ps : List Place). AllWithin RestsAt ps 0 (i + 1)) (sym e) (AllWithin-more RestsAt places 0 i quiet (at_read places RestsAt i (at places i) within (at_same places i within) rests))

-- a post keeps what a deed did
pub kept_answer : (room : List ℕ) (deed : Deed) (x : List ℕ) (new old : Place) (taken : Bool) → deed ≡ Answer x → ((bytes : List ℕ) → new ≡ done_place (steps.Answer bytes) taken old) → new ≡ done_place (act_of room deed) taken old
kept_answer room deed x new old taken e h = h x ∙ ap (λ (a : Act). done_place a taken old) (sym (ap (act_of room) e))

pub kept_send : (room : List ℕ) (deed : Deed) (n : ℕ) (new old : Place) (taken : Bool) → deed ≡ Send n → ((bytes : List ℕ) → new ≡ done_place (steps.Send bytes) taken old) → new ≡ done_place (act_of room deed) taken old
kept_send room deed n new old taken e h = h (take n room) ∙ ap (λ (a : Act). done_place a taken old) (sym (ap (act_of room) e))

-- the room of a Vec that was lent whole
pub room_is : (r rest : List ℕ) (len : ℕ) → length r ≡ len → take len (r ++ rest) ≡ r
room_is r rest len e = subst (λ (k : ℕ). take k (r ++ rest) ≡ r) e (take-append_seam r rest)
