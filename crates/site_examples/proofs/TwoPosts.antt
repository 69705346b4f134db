-- What follows is computed from what each post keeps.
use Rattle.std.proofs.Common.{◌≡◌, ℕ, ◌+◌, Bool, true, List, [], ◌∷◌, ◌++◌, length, Option, Some, None, refl, sym, ap, subst, ◌∙◌, arith, inl, inr}
use Rattle.charge_world.specs.declared.entry.Entry.{Entry}
use Rattle.charge_world.specs.declared.entry.Entry.TheVariants as entry
use Rattle.charge_world.specs.declared.heard.What.TheVariants as what
use Rattle.charge_world.specs.declared.offer.Dialect.TheVariants.{Iso}
use Rattle.session_words.specs.declared.cause.EndCause.TheVariants.{SetupTimeout}
use Rattle.v2gtp_frames.specs.Frames.{frame}
use Rattle.v2gtp_frames.specs.Reading as reading
use Rattle.post_spec.specs.Codecs.{Judged, Negotiated, Codecs}
use Rattle.post_spec.specs.Spelled.{AreDetermined}
use Rattle.post_spec.specs.Steps.{Came, Clock, Act, Send, End, Reading, Step, Hears, Does}
use Rattle.station_spec.specs.Judging as judging
use Rattle.station_spec.specs.States as states
use Rattle.station_spec.specs.Acting.{state}
use Rattle.station_spec.specs.Next.{IsQuiet, IsDone, Acts}
use Rattle.station_spec.specs.Sharing.{Post, state_of, Shows}
use Rattle.station_spec.specs.Runs.{with_step, entry_of, AreQuiet, Follows, IsRun}
use Rattle.station_examples.specs.Fixtures.{dc_post}
use Rattle.site_examples.specs.TwoPosts.{site, past, waited, spoken, post_of, ended, DeadlineGoesFirst}

-- post 1 ends its session
ends_by : (c : Codecs) (S : ℕ → ℕ → Type 0) (r : Option Reading) (a : Act) (taken : Bool) → Acts c dc_post S (state dc_post waited) r a taken → (r ≡ None) × (a ≡ End 7) × (taken ≡ true)
ends_by c S None a taken acts =
    let x : Some (states.Finish SetupTimeout) ≡ Some acts.todo = acts.acts in
    let y : states.Finish SetupTimeout ≡ acts.todo = cc in
    let z = subst (λ (todo : states.Todo). IsDone c todo a taken) (sym y) acts.done in
    (refl, z.0, z.1)
ends_by c S (Some reading) a taken acts = absurd acts.read

not_quiet : IsQuiet dc_post (state dc_post waited) → ⊥
not_quiet q = let x : Some (states.Finish SetupTimeout) ≡ None = q.none in cc

head_is : (p q : Post) (ps qs : List Post) → p ∷ ps ≡ q ∷ qs → p ≡ q
head_is p q ps qs h = cc

tail_is : (p q : Post) (ps qs : List Post) → p ∷ ps ≡ q ∷ qs → ps ≡ qs
tail_is p q ps qs h = cc

nothing_behind : (bs : List Post) (p : Post) (ps : List Post) → [] ≡ bs ++ p ∷ ps → ⊥
nothing_behind [] p ps h = cc
nothing_behind (b ∷ bs) p ps h = cc

abbrev Ended : Entry → List Post → Type 0
Ended e later = (e ≡ entry.Ended 1 7) × (later ≡ post_of ended ∷ post_of spoken ∷ [])

ends_first : (c : Codecs) (before : List Post) (post : Post) (behind : List Post) (r : Option Reading) (a : Act) (taken : Bool) (e : Entry) (later : List Post) → post_of waited ∷ post_of spoken ∷ [] ≡ before ++ post ∷ behind → AreQuiet before
    → Acts c post.plan (Shows 50000 before behind) (state_of post) r a taken → e ≡ entry_of (length before + 1) a taken → later ≡ before ++ with_step (Does r a taken) post ∷ behind → Ended e later
ends_first c [] post behind r a taken e later is quiet acts entry_is later_is =
    let p = head_is (post_of waited) post (post_of spoken ∷ []) behind is in
    let b = tail_is (post_of waited) post (post_of spoken ∷ []) behind is in
    let k = ends_by c (Shows 50000 [] behind) r a taken (subst (λ (q : Post). Acts c q.plan (Shows 50000 [] behind) (state_of q) r a taken) (sym p) acts) in (
      entry_is ∙ ap (λ (x : Act). entry_of 1 x taken) k.1,
      later_is
          ∙ ap (λ (x : Option Reading). with_step (Does x a taken) post ∷ behind) k.0
          ∙ ap (λ (x : Act). with_step (Does None x taken) post ∷ behind) k.1
          ∙ ap (λ (x : Bool). with_step (Does None (End 7) x) post ∷ behind) k.2
          ∙ ap (λ (q : Post). with_step (Does None (End 7) true) q ∷ behind) (sym p)
          ∙ ap (λ (qs : List Post). post_of ended ∷ qs) (sym b),
    )
ends_first c (x ∷ before) post behind r a taken e later is quiet acts entry_is later_is =
    let p = head_is (post_of waited) x (post_of spoken ∷ []) (before ++ post ∷ behind) is in
    absurd (not_quiet (subst (λ (q : Post). IsQuiet q.plan (state_of q)) (sym p) quiet.0))

follows_first : (c : Codecs) (e : Entry) (later : List Post) → Follows c site past (post_of waited ∷ post_of spoken ∷ []) e later → Ended e later
follows_first c e later (inl hears) = absurd (not_quiet hears.whole.0)
follows_first c e later (inr m) = ends_first c m.before m.post m.behind m.reading m.act m.taken e later m.posts_are m.first m.acts m.entry_is m.later_is

-- post 2 answers
ended_rests : (c : Codecs) (S : ℕ → ℕ → Type 0) (r : Option Reading) (a : Act) (taken : Bool) → Acts c dc_post S (state dc_post ended) r a taken → ⊥
ended_rests c S None a taken acts = let x : None ≡ Some acts.todo = acts.acts in cc
ended_rests c S (Some reading) a taken acts = acts.read

says : (c : Codecs) (S : ℕ → ℕ → Type 0) (r : Option Reading) (a : Act) (taken : Bool) (response : List ℕ) → AreDetermined c → c.Negotiates dc_post.dialects.items [] (Negotiated (Some Iso) response) → Acts c dc_post S (state dc_post spoken) r a taken → a ≡ Send (frame response)
unfolding reading.whole_at
says c S None a taken response det n acts = absurd acts.read
says c S (Some rd) a taken response det n acts =
    let same : rd.judged ≡ Negotiated (Some Iso) response = det.negotiates dc_post.dialects.items [] rd.judged (Negotiated (Some Iso) response) acts.read.0 n in
    let x : Some (states.Say (states.Response response)) ≡ Some acts.todo = subst (λ (j : Judged). states.first (judging.filled dc_post (Some (record { judged = j; shown = rd.shown })) (state dc_post spoken)).agenda ≡ Some acts.todo) same acts.acts in
    let y : states.Say (states.Response response) ≡ acts.todo = cc in
    let z = subst (λ (todo : states.Todo). IsDone c todo a taken) (sym y) acts.done in
    z.2 ∙ ap Send z.1

speaks : IsQuiet dc_post (state dc_post spoken) → ⊥
unfolding reading.whole_at
speaks q = let x = q.no_word in cc

abbrev Sent : Entry → List ℕ → Type 0
Sent e response = (taken : Bool) × (e ≡ entry.Sent 2 (frame response) taken)

says_then : (c : Codecs) (before : List Post) (post : Post) (behind : List Post) (r : Option Reading) (a : Act) (taken : Bool) (e : Entry) (response : List ℕ) → AreDetermined c → c.Negotiates dc_post.dialects.items [] (Negotiated (Some Iso) response)
    → post_of ended ∷ post_of spoken ∷ [] ≡ before ++ post ∷ behind → Acts c post.plan (Shows 50000 before behind) (state_of post) r a taken → e ≡ entry_of (length before + 1) a taken → Sent e response
says_then c [] post behind r a taken e response det n is acts entry_is =
    let p = head_is (post_of ended) post (post_of spoken ∷ []) behind is in
    absurd (ended_rests c (Shows 50000 [] behind) r a taken (subst (λ (q : Post). Acts c q.plan (Shows 50000 [] behind) (state_of q) r a taken) (sym p) acts))
says_then c (x ∷ []) post behind r a taken e response det n is acts entry_is =
    let t = tail_is (post_of ended) x (post_of spoken ∷ []) (post ∷ behind) is in
    let p = head_is (post_of spoken) post [] behind t in
    let k = says c (Shows 50000 (x ∷ []) behind) r a taken response det n (subst (λ (q : Post). Acts c q.plan (Shows 50000 (x ∷ []) behind) (state_of q) r a taken) (sym p) acts) in
    (taken, entry_is ∙ ap (λ (b : Act). entry_of 2 b taken) k)
says_then c (x ∷ (y ∷ before)) post behind r a taken e response det n is acts entry_is =
    let t = tail_is (post_of ended) x (post_of spoken ∷ []) (y ∷ (before ++ post ∷ behind)) is in
    absurd (nothing_behind before post behind (tail_is (post_of spoken) y [] (before ++ post ∷ behind) t))

follows_then : (c : Codecs) (response : List ℕ) (e : Entry) (later : List Post) → AreDetermined c → c.Negotiates dc_post.dialects.items [] (Negotiated (Some Iso) response) → Follows c site (entry.Ended 1 7 ∷ past) (post_of ended ∷ post_of spoken ∷ []) e later → Sent e response
follows_then c response e later det n (inl hears) = absurd (speaks hears.whole.1.0)
follows_then c response e later det n (inr m) = says_then c m.before m.post m.behind m.reading m.act m.taken e response det n m.posts_are m.acts m.entry_is

-- the hearings are a run
abbrev connected : List Step
connected = Hears 10000 Clock ∷ Hears 0 (Came 1) ∷ []

abbrev late : List Step
late = Hears 10000 (Came 2) ∷ Hears 0 Clock ∷ []

first_hearing : (c : Codecs) → IsRun c site (entry.Heard (record { at = 0; what = what.Came 1 1 }) [] ∷ []) (post_of (Hears 0 (Came 1) ∷ []) ∷ post_of (Hears 0 Clock ∷ []) ∷ [])
first_hearing c = (
  post_of [] ∷ post_of [] ∷ [],
  refl,
  inl (record {
    whole = (record { none = refl; no_word = refl }, (record { none = refl; no_word = refl }, tt));
    goes_on = refl;
    turns_left = omega arith;
    heard = ((omega arith, omega arith), record { moment = omega arith; brings = (omega arith, refl) }, refl);
  }),
)

second_hearing : (c : Codecs) → IsRun c site (entry.Heard (record { at = 10000; what = what.Came 2 2 }) [] ∷ entry.Heard (record { at = 0; what = what.Came 1 1 }) [] ∷ []) (post_of connected ∷ post_of late ∷ [])
second_hearing c = (
  post_of (Hears 0 (Came 1) ∷ []) ∷ post_of (Hears 0 Clock ∷ []) ∷ [],
  first_hearing c,
  inl (record {
    whole = (record { none = refl; no_word = refl }, (record { none = refl; no_word = refl }, tt));
    goes_on = refl;
    turns_left = omega arith;
    heard = ((omega arith, omega arith), record { moment = omega arith; brings = (omega arith, refl) }, refl);
  }),
)

third_hearing : (c : Codecs) → IsRun c site past (post_of waited ∷ post_of spoken ∷ [])
unfolding reading.whole_at
third_hearing c = (
  post_of connected ∷ post_of late ∷ [],
  second_hearing c,
  inl (record {
    whole = (record { none = refl; no_word = refl }, (record { none = refl; no_word = refl }, tt));
    goes_on = refl;
    turns_left = omega arith;
    heard = (
      (omega arith, omega arith),
      record {
        moment = omega arith;
        brings = (omega arith, omega arith, record { count = refl; bounds = (omega arith, (omega arith, (omega arith, (omega arith, (omega arith, (omega arith, (omega arith, (omega arith, tt)))))))) });
      },
      refl,
    );
  }),
)

pub deadline_goes_first : (c : Codecs) → DeadlineGoesFirst c
deadline_goes_first c = record { run = third_hearing c; ends = follows_first c; answers = follows_then c }
