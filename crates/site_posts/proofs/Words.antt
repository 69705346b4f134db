-- The word that a post reads, and what it keeps of it.
use Rattle.std.proofs.Common.{◌≡◌, ◌<◌, ℕ, suc, ◌+◌, Bool, true, false, if◌then◌else◌, List, [], ◌∷◌, ◌++◌, length, map, take, drop, get_or, set, min, zero, ◌-◌, Option, Some, None, refl, sym, ap, subst, ◌∙◌, arith}
use Rattle.std.specs.Prelude.{MatchBool, sum_by}
use Rattle.std.proofs.lemmas.List.{get_or-set_same, set-get_or, get_or_read, take-set, drop-set-lt}
use Rattle.charge_world.specs.declared.offer.Dialect.{Dialect}
use Rattle.session_words.specs.declared.plan.PostPlan.{PostPlan}
use Rattle.session_words.specs.declared.word.Word.{Word}
use Rattle.power_share.specs.Sharing.{IsLevel}
use Rattle.post_spec.specs.Codecs.{Judged, Negotiated, Asked, WrongSide, Refused, Codecs}
use Rattle.post_spec.specs.Steps.{Reading}
use Rattle.station_spec.specs.States.{Session, State}
use Rattle.station_spec.specs.Judging.{Payload, wanted, shows, asked_behind, read, IsShown, IsRead}
use Rattle.valid_isolation.specs.Isolated.{IsIsolated, HasJudged}
use Rattle.valid_isolation.proofs.Kept.{word_isolated}
use Rattle.site_codec.specs.Views.{asks_in, IsShownFor, ComesFirst}
use Rattle.site_codec.specs.Judging.{ChoosesOffered, NegotiatesFirst}
use Rattle.site_codec.specs.Replies.{IsPlan}
use Rattle.site_posts.specs.declared.place.Place.{Place}
use Rattle.site_posts.specs.Sound.{IsSound}
use Rattle.site_posts.specs.Places.{Shares, filled_place, asked_at, told_at}
use Rattle.site_posts.specs.Filling.{no_place, at, decided_place, word_place, IsShort, JudgesFor, Reads, Fills}
use Rattle.site_posts.proofs.Sound.{decided_sound, decided_judged, read_sound, comes_first, IsBounded}
use Rattle.site_posts.proofs.Sound as sound

-- what is shown for a word
shown_if : (S : ℕ → ℕ → Type 0) (b : Bool) (asked shown : ℕ) → IsShownFor S (if b then Some asked else None) shown → MatchBool b (S asked shown) (shown ≡ 0)
shown_if S true asked shown h = h
shown_if S false asked shown h = h

shown_for : (S : ℕ → ℕ → Type 0) (plan : PostPlan) (s : State) (session : Option Session) (j : Judged) (shown : ℕ) → IsShownFor S (asks_in plan s session j) shown → IsShown S plan s session j shown
shown_for S plan s None (Negotiated chosen response) shown h = h
shown_for S plan s None (Asked r) shown h = h
shown_for S plan s None WrongSide shown h = h
shown_for S plan s None Refused shown h = h
shown_for S plan s (Some t) (Asked r) shown h = shown_if S (shows t.stage plan s r) (asked_behind t plan s r) shown h
shown_for S plan s (Some t) (Negotiated chosen response) shown h = h
shown_for S plan s (Some t) WrongSide shown h = h
shown_for S plan s (Some t) Refused shown h = h

-- nothing is read where nothing is wanted
none_wanted : (c : Codecs) (offers : List Dialect) (w : Option Payload) → JudgesFor c offers w None → w ≡ None
none_wanted c offers None h = refl
none_wanted c offers (Some p) h = absurd h

pub reads_none : (c : Codecs) (limit : ℕ) (places : List Place) (i : ℕ) → JudgesFor c (at places i).plan.dialects.items (wanted (at places i).post) None → IsSound c.Reads (at places i).plan (at places i).post → Reads c limit places i places
reads_none c limit places i j s =
    let p = at places i in
    let none = none_wanted c p.plan.dialects.items (wanted p.post) j in
    record {
      reading = None;
      is_read = subst (λ (w : Option Payload). IsRead c p.plan (Shares limit places i) p.post w None) (sym none) tt;
      new_is = sym (set-get_or places i no_place);
      sound = s;
    }

bounded : (limit : ℕ) (places : List Place) (i : ℕ) → IsBounded (Shares limit places i)
bounded limit places i asked shown s = omega (arith, s.least)

short_too : (j : Judged) → IsShort j → sound.IsShort j
short_too (Negotiated chosen response) h = h
short_too (Asked r) h = h
short_too WrongSide h = h
short_too Refused h = h

-- a word is read
some_read : (c : Codecs) (limit : ℕ) (places : List Place) (i : ℕ) (w : Option Payload) (j : Judged) (shown : ℕ) → wanted (at places i).post ≡ w → NegotiatesFirst c.Negotiates → ChoosesOffered c.Negotiates → IsPlan (at places i).plan → JudgesFor c (at places i).plan.dialects.items w (Some j)
    → IsShownFor (Shares limit places i) (asks_in (at places i).plan (at places i).post (at places i).post.session j) shown → IsSound c.Reads (at places i).plan (at places i).post → HasJudged (at places i).post → Reads c limit places i (set places i (word_place j shown (at places i)))
some_read c limit places i None j shown e first chooses plan judges shows s isolated = absurd judges
some_read c limit places i (Some payload) j shown e first chooses plan judges shows s isolated =
    let p = at places i in
    let r : Reading = record { judged = j; shown = shown } in
    let is_shown = shown_for (Shares limit places i) p.plan p.post p.post.session j shown shows in
    record {
      reading = Some r;
      is_read = subst (λ (w : Option Payload). IsRead c p.plan (Shares limit places i) p.post w (Some r)) (sym e) (judges.0, is_shown);
      new_is = refl;
      sound = read_sound c p.plan (Shares limit places i) p.post payload r first chooses (bounded limit places i) plan s isolated e judges.0 is_shown (short_too j judges.1);
    }

pub reads_some : (c : Codecs) (limit : ℕ) (places new : List Place) (i : ℕ) (j : Judged) (shown : ℕ) → NegotiatesFirst c.Negotiates → ChoosesOffered c.Negotiates → IsPlan (at places i).plan → JudgesFor c (at places i).plan.dialects.items (wanted (at places i).post) (Some j)
    → IsShownFor (Shares limit places i) (asks_in (at places i).plan (at places i).post (at places i).post.session j) shown → IsSound c.Reads (at places i).plan (at places i).post → HasJudged (at places i).post → new ≡ set places i (word_place j shown (at places i)) → Reads c limit places i new
reads_some c limit places new i j shown first chooses plan judges shows s isolated e =
    subst (Reads c limit places i) (sym e) (some_read c limit places i (wanted (at places i).post) j shown refl first chooses plan judges shows s isolated)

-- what a post has to be that reads a word
judged_some : (c : Codecs) (offers : List Dialect) (s : State) (w : Option Payload) (j : Judged) → wanted s ≡ w → JudgesFor c offers w (Some j) → HasJudged s → IsIsolated s.session s.facts.isolation × ComesFirst s.session j
judged_some c offers s None j e judges isolated = absurd judges
judged_some c offers s (Some p) j e judges isolated = (word_isolated s p e isolated, comes_first c offers s p j e judges.0)

pub may_read : (c : Codecs) (offers : List Dialect) (s : State) (j : Judged) → JudgesFor c offers (wanted s) (Some j) → HasJudged s → IsIsolated s.session s.facts.isolation × ComesFirst s.session j
may_read c offers s j judges isolated = judged_some c offers s (wanted s) j refl judges isolated

-- what was read with these shares was read with others that say the same
show_if : (S T : ℕ → ℕ → Type 0) (b : Bool) (asked shown : ℕ) → ((asked n : ℕ) → S asked n → T asked n) → MatchBool b (S asked shown) (shown ≡ 0) → MatchBool b (T asked shown) (shown ≡ 0)
show_if S T true asked shown f h = f asked shown h
show_if S T false asked shown f h = h

show_more : (S T : ℕ → ℕ → Type 0) (plan : PostPlan) (s : State) (session : Option Session) (j : Judged) (shown : ℕ) → ((asked n : ℕ) → S asked n → T asked n) → IsShown S plan s session j shown → IsShown T plan s session j shown
show_more S T plan s None j shown f h = h
show_more S T plan s (Some t) (Asked r) shown f h = show_if S T (shows t.stage plan s r) (asked_behind t plan s r) shown f h
show_more S T plan s (Some t) (Negotiated chosen response) shown f h = h
show_more S T plan s (Some t) WrongSide shown f h = h
show_more S T plan s (Some t) Refused shown f h = h

pub read_more : (c : Codecs) (S T : ℕ → ℕ → Type 0) (plan : PostPlan) (s : State) (w : Option Payload) (reading : Option Reading) → ((asked n : ℕ) → S asked n → T asked n) → IsRead c plan S s w reading → IsRead c plan T s w reading
read_more c S T plan s None None f h = tt
read_more c S T plan s None (Some reading) f h = absurd h
read_more c S T plan s (Some p) None f h = absurd h
read_more c S T plan s (Some p) (Some reading) f h = (h.0, show_more S T plan s s.session reading.judged reading.shown f h.1)

-- the others stand as before
pub set_twice : {A : Type 0} (xs : List A) (i : ℕ) (x y : A) → set (set xs i x) i y ≡ set xs i y
set_twice [] i x y = refl
set_twice (z ∷ xs) zero x y = refl
set_twice (z ∷ xs) (suc i) x y = ap (λ (t : List _). z ∷ t) (set_twice xs i x y)

shares_before : (limit : ℕ) (places : List Place) (i : ℕ) (x : Place) (asked n : ℕ) → Shares limit (set places i x) i asked n → Shares limit places i asked n
shares_before limit places i x asked n s =
    let f = take-set places i x in
    let b : drop (i + 1) (set places i x) ≡ drop (i + 1) places = drop-set-lt (i + 1) places i x (omega arith) in
    record {
      level = s.level;
      is_level = subst (λ (t : List Place). IsLevel limit (map asked_at t ++ asked ∷ map asked_at (drop (i + 1) places)) s.level) f
          (subst (λ (t : List Place). IsLevel limit (map asked_at (take i (set places i x)) ++ asked ∷ map asked_at t) s.level) b s.is_level);
      least = s.least ∙ ap (λ (t : List Place). min (min asked s.level) (limit - (sum_by told_at t + sum_by told_at (drop (i + 1) (set places i x))))) f
          ∙ ap (λ (t : List Place). min (min asked s.level) (limit - (sum_by told_at (take i places) + sum_by told_at t))) b;
    }

pub fills : (c : Codecs) (limit : ℕ) (places mid new : List Place) (i : ℕ) → i < length places → mid ≡ set places i (decided_place (at places i)) → Reads c limit mid i new → Fills c limit places i new
fills c limit places mid new i within e r =
    let d = decided_place (at places i) in
    let here : at mid i ≡ d = ap (λ (ps : List Place). at ps i) e ∙ get_or-set_same places i d no_place within in
    let read_here = subst (λ (p : Place). IsRead c p.plan (Shares limit mid i) p.post (wanted p.post) r.reading) here r.is_read in
    record {
      reading = r.reading;
      is_read = read_more c (Shares limit mid i) (Shares limit places i) d.plan d.post (wanted d.post) r.reading
          (λ asked n s. shares_before limit places i d asked n (subst (λ (ps : List Place). Shares limit ps i asked n) e s)) read_here;
      new_is = r.new_is ∙ ap (λ (p : Place). set mid i (record p { post = read p.plan p.post r.reading })) here
          ∙ ap (λ (ps : List Place). set ps i (filled_place r.reading (at places i))) e ∙ set_twice places i d (filled_place r.reading (at places i));
      sound = subst (λ (p : Place). IsSound c.Reads p.plan (read p.plan p.post r.reading)) here r.sound;
    }

-- what is decided keeps its plan, stays sound, and has judged what was heard
pub record IsDecided (Reads : Dialect → List ℕ → Option Word → Type 0) (p : Place) : Type 0 where
  pub plan : IsPlan p.plan
  pub sound : IsSound Reads p.plan p.post
  pub judged : HasJudged p.post

pub decided_at : (Reads : Dialect → List ℕ → Option Word → Type 0) (places mid : List Place) (i : ℕ) → i < length places → mid ≡ set places i (decided_place (at places i)) → IsPlan (at places i).plan → IsSound Reads (at places i).plan (at places i).post
    → IsDecided Reads (at mid i)
decided_at Reads places mid i within e plan s =
    let d = decided_place (at places i) in
    let here : at mid i ≡ d = ap (λ (ps : List Place). at ps i) e ∙ get_or-set_same places i d no_place within in
    subst (IsDecided Reads) (sym here) (record {
      plan = plan;
      sound = decided_sound Reads (at places i).plan (at places i).post plan s;
      judged = decided_judged Reads (at places i).plan (at places i).post s;
    })

-- what indexing gives, at any default
pub read_at : (places : List Place) (i : ℕ) (x : Place) → i < length places → x ≡ get_or places i x → x ≡ at places i
read_at places i x within is = is ∙ (sym is ∙ get_or_read places i x within is no_place)

pub index_at : (places : List Place) (i : ℕ) (x : Place) → i < length places → x ≡ get_or places i x → get_or places i x ≡ at places i
index_at places i x within is = sym is ∙ get_or_read places i x within is no_place
