-- Each entry follows from those before it, and each step conforms, by computing.
use Rattle.std.proofs.Common.{◌≡◌, ◌≤◌, ◌<◌, ℕ, max, true, false, List, [], ◌∷◌, ◌++◌, map, Option, Some, None, refl, sym, subst, ◌∙◌, arith, inr, inl}
use Rattle.std.proofs.lemmas.List.Elements.{All-nil, All-cons}
use Rattle.std.specs.List.{flat_map}
use Rattle.std.specs.Prelude.{All}
use Rattle.charge_world.specs.Outside.{IsOfPosts}
use Rattle.charge_world.specs.declared.heard.PilotState.TheVariants.{C}
use Rattle.charge_world.specs.declared.heard.PlantEvent.TheVariants as plant
use Rattle.session_words.specs.declared.word.Reply.{Reply}
use Rattle.session_words.specs.declared.word.Word.TheVariants as word
use Rattle.v2gtp_frames.specs.Frames.{frame, IsPayload, Frames, IsRight}
use Rattle.v2gtp_frames.specs.Reading as reading
use Rattle.v2gtp_frames.proofs.Ends.{none_rest, none_right}
use Rattle.v2gtp_frames.proofs.Pieces.{starts_read}
use Rattle.v2gtp_frames.proofs.Same.{same}
use Rattle.post_spec.specs.Codecs.{Codecs}
use Rattle.post_spec.specs.Sessions.{brought}
use Rattle.post_spec.specs.Steps.{Event, Came, Bytes, Plant, Reading, Step, Hears, moment}
use Rattle.station_spec.specs.States.{Todo, first}
use Rattle.station_spec.specs.Blocks.{is_last, hearings, IsHearing}
use Rattle.station_spec.specs.Deciding.{decided}
use Rattle.station_spec.specs.Judging.{wanted, filled, IsRead}
use Rattle.station_spec.specs.Acting.{state}
use Rattle.station_spec.specs.Next.{IsQuiet, IsDone}
use Rattle.station_spec.specs.Sharing.{Shows}
use Rattle.station_spec.specs.Runs.{heard_from, IsRun}
use Rattle.station_examples.specs.Fixtures.{ac_post, token}
use Rattle.conforming_runs.specs.Conforming.{Conforming}
use Rattle.site_examples.specs.OneCharge.{request, Spells, word_shown, negotiated, SessionConforms}
use Rattle.site_examples.specs.Playing.{one_post, post_of, act_of, does, what_of, past_of}

-- a stream that is whole frames has no fault
pub no_fault : (payloads : List (List ℕ)) (bytes : List ℕ) → bytes ≡ flat_map frame payloads ++ [] → All IsPayload payloads → (ps : List (List ℕ)) (rest : List ℕ) → Frames bytes ps rest → IsRight rest
no_fault payloads bytes w each ps rest f =
    let none = starts_read [] refl in
    let e : rest ≡ [] = (same ps payloads rest [] f.each each f.longest (none_rest [] none) (sym f.whole ∙ w)).1 in
    subst IsRight (sym e) (none_right [] none)

pub all_small : (ns : List ℕ) → All IsPayload (map (λ n. n ∷ []) ns)
all_small [] = All-nil IsPayload
all_small (n ∷ ns) = All-cons IsPayload (n ∷ []) (map (λ n. n ∷ []) ns) (let x : 1 ≤ 65536 = omega arith in x) (all_small ns)

-- a run goes on with a hearing, or with an act
hears : (c : Codecs) (at : ℕ) (event : Event) (steps : List Step) → IsRun c one_post (past_of steps) (post_of steps ∷ []) → IsQuiet ac_post (state ac_post steps) → is_last (past_of steps) ≡ false → hearings (past_of steps) < 100
    → IsOfPosts 1 (what_of event) → IsHearing (record { at = at; what = what_of event }) (brought event)
    → post_of (Hears at event ∷ steps) ∷ [] ≡ heard_from 1 (max (moment (past_of steps)) at) (record { at = at; what = what_of event }) (brought event) (post_of steps ∷ [])
    → IsRun c one_post (past_of (Hears at event ∷ steps)) (post_of (Hears at event ∷ steps) ∷ [])
hears c at event steps run quiet last turns of_posts is e =
    (post_of steps ∷ [], run, inl (record { whole = (quiet, tt); goes_on = last; turns_left = turns; heard = (of_posts, is, e) }))

acts : (c : Codecs) (encode : Reply → List ℕ) (r : Option Reading) (steps : List Step) (todo : Todo) → IsRun c one_post (past_of steps) (post_of steps ∷ []) → IsRead c ac_post (Shows 50000 [] []) (decided ac_post (state ac_post steps)) (wanted (decided ac_post (state ac_post steps))) r
    → first (filled ac_post r (state ac_post steps)).agenda ≡ Some todo → IsDone c todo (act_of encode (first (filled ac_post r (state ac_post steps)).agenda)) true → IsRun c one_post (past_of (does encode r steps)) (post_of (does encode r steps) ∷ [])
acts c encode r steps todo run i f d = (
  post_of steps ∷ [],
  run,
  inr (record {
    before = [];
    post = post_of steps;
    behind = [];
    posts_are = refl;
    first = tt;
    reading = r;
    act = act_of encode (first (filled ac_post r (state ac_post steps)).agenda);
    taken = true;
    acts = record { read = i; todo = todo; acts = f; done = d };
    entry_is = refl;
    later_is = refl;
  }),
)

-- alone at its site, the post is shown what it asks for
alone_shown : Shows 50000 [] [] 22080 22080
alone_shown = record {
  level = 22080;
  is_level = record {
    bearable = record { asked = (let x : 22080 ≤ 22080 = omega arith in x); borne = (let x : 22080 ≤ 50000 = omega arith in x) };
    greatest = λ m b. b.asked;
  };
  least = refl;
}

-- the steps, one by one
abbrev S : Type 0
S = List ℕ → (Reply → List ℕ) → List Step

abbrev s0 : S
s0 response encode = Hears 0 (Came token) ∷ []

abbrev s1 : S
s1 response encode = Hears 10 (Plant (plant.Pilot C)) ∷ (s0 response encode)

abbrev s2 : S
s2 response encode = Hears 100 (Bytes (frame (9 ∷ []))) ∷ (s1 response encode)

abbrev s3 : S
s3 response encode = does encode (negotiated response) (s2 response encode)

abbrev s4 : S
s4 response encode = Hears 200 (Bytes (frame (0 ∷ []))) ∷ (s3 response encode)

abbrev s5 : S
s5 response encode = does encode (word_shown 0 0) (s4 response encode)

abbrev s6 : S
s6 response encode = Hears 300 (Bytes (frame (1 ∷ []))) ∷ (s5 response encode)

abbrev s7 : S
s7 response encode = does encode (word_shown 1 0) (s6 response encode)

abbrev s8 : S
s8 response encode = Hears 400 (Bytes (frame (2 ∷ []))) ∷ (s7 response encode)

abbrev s9 : S
s9 response encode = does encode (word_shown 2 0) (s8 response encode)

abbrev s10 : S
s10 response encode = Hears 500 (Bytes (frame (3 ∷ []))) ∷ (s9 response encode)

abbrev s11 : S
s11 response encode = does encode (word_shown 3 0) (s10 response encode)

abbrev s12 : S
s12 response encode = Hears 600 (Bytes (frame (4 ∷ []))) ∷ (s11 response encode)

abbrev s13 : S
s13 response encode = does encode (word_shown 4 22080) (s12 response encode)

abbrev s14 : S
s14 response encode = Hears 700 (Bytes (frame (5 ∷ []))) ∷ (s13 response encode)

abbrev s15 : S
s15 response encode = does encode (word_shown 5 0) (s14 response encode)

abbrev s16 : S
s16 response encode = Hears 750 (Plant (plant.Feedback true)) ∷ (s15 response encode)

abbrev s17 : S
s17 response encode = does encode (None) (s16 response encode)

abbrev s18 : S
s18 response encode = Hears 800 (Bytes (frame (6 ∷ []))) ∷ (s17 response encode)

abbrev s19 : S
s19 response encode = does encode (word_shown 6 22080) (s18 response encode)

abbrev s20 : S
s20 response encode = does encode (None) (s19 response encode)

abbrev s21 : S
s21 response encode = Hears 900 (Bytes (frame (7 ∷ []))) ∷ (s20 response encode)

abbrev s22 : S
s22 response encode = does encode (word_shown 7 0) (s21 response encode)

abbrev s23 : S
s23 response encode = does encode (None) (s22 response encode)

abbrev s24 : S
s24 response encode = Hears 1000 (Bytes (frame (8 ∷ []))) ∷ (s23 response encode)

abbrev s25 : S
s25 response encode = does encode (word_shown 8 0) (s24 response encode)

abbrev s26 : S
s26 response encode = does encode (None) (s25 response encode)

-- they conform

c0 : (response : List ℕ) (encode : Reply → List ℕ) → Conforming ac_post (s0 response encode)
unfolding reading.whole_at
c0 response encode = tt

c1 : (response : List ℕ) (encode : Reply → List ℕ) → Conforming ac_post (s1 response encode)
unfolding reading.whole_at
c1 response encode = record {
  earlier = c0 response encode;
  goes_on = record { early = (let x : 10 < 18000 = omega arith in x); stays = tt };
  framed = record { right = no_fault (map (λ n. n ∷ []) ([])) ([]) refl (all_small ([])); alone = λ h. let x : false ≡ true = h in cc };
}

c2 : (response : List ℕ) (encode : Reply → List ℕ) → Conforming ac_post (s2 response encode)
unfolding reading.whole_at
c2 response encode = record {
  earlier = c1 response encode;
  goes_on = record { early = (let x : 100 < 18000 = omega arith in x); stays = tt };
  framed = record { right = no_fault (map (λ n. n ∷ []) (9 ∷ [])) (frame (9 ∷ [])) refl (all_small (9 ∷ [])); alone = λ h. let x : false ≡ true = h in cc };
}

c3 : (response : List ℕ) (encode : Reply → List ℕ) → Conforming ac_post (s3 response encode)
unfolding reading.whole_at
c3 response encode = record {
  earlier = c2 response encode;
  goes_on = (refl, refl);
  framed = record { right = no_fault (map (λ n. n ∷ []) (9 ∷ [])) (frame (9 ∷ [])) refl (all_small (9 ∷ [])); alone = λ h. let x : false ≡ true = h in cc };
}

c4 : (response : List ℕ) (encode : Reply → List ℕ) → Conforming ac_post (s4 response encode)
unfolding reading.whole_at
c4 response encode = record {
  earlier = c3 response encode;
  goes_on = record { early = (let x : 200 < 18000 = omega arith in x); stays = tt };
  framed = record { right = no_fault (map (λ n. n ∷ []) (9 ∷ 0 ∷ [])) (frame (9 ∷ []) ++ frame (0 ∷ [])) refl (all_small (9 ∷ 0 ∷ [])); alone = λ h. let x : false ≡ true = h in cc };
}

c5 : (response : List ℕ) (encode : Reply → List ℕ) → Conforming ac_post (s5 response encode)
unfolding reading.whole_at
c5 response encode = record {
  earlier = c4 response encode;
  goes_on = (refl, record { in_row = refl; named = λ h. let x : false ≡ true = h in cc; made = tt });
  framed = record { right = no_fault (map (λ n. n ∷ []) (9 ∷ 0 ∷ [])) (frame (9 ∷ []) ++ frame (0 ∷ [])) refl (all_small (9 ∷ 0 ∷ [])); alone = λ h. let x : false ≡ true = h in cc };
}

c6 : (response : List ℕ) (encode : Reply → List ℕ) → Conforming ac_post (s6 response encode)
unfolding reading.whole_at
c6 response encode = record {
  earlier = c5 response encode;
  goes_on = record { early = (let x : 300 < 60200 = omega arith in x); stays = tt };
  framed = record { right = no_fault (map (λ n. n ∷ []) (9 ∷ 0 ∷ 1 ∷ [])) (frame (9 ∷ []) ++ frame (0 ∷ []) ++ frame (1 ∷ [])) refl (all_small (9 ∷ 0 ∷ 1 ∷ [])); alone = λ h. let x : false ≡ true = h in cc };
}

c7 : (response : List ℕ) (encode : Reply → List ℕ) → Conforming ac_post (s7 response encode)
unfolding reading.whole_at
c7 response encode = record {
  earlier = c6 response encode;
  goes_on = (refl, record { in_row = refl; named = λ h. refl; made = tt });
  framed = record { right = no_fault (map (λ n. n ∷ []) (9 ∷ 0 ∷ 1 ∷ [])) (frame (9 ∷ []) ++ frame (0 ∷ []) ++ frame (1 ∷ [])) refl (all_small (9 ∷ 0 ∷ 1 ∷ [])); alone = λ h. let x : false ≡ true = h in cc };
}

c8 : (response : List ℕ) (encode : Reply → List ℕ) → Conforming ac_post (s8 response encode)
unfolding reading.whole_at
c8 response encode = record {
  earlier = c7 response encode;
  goes_on = record { early = (let x : 400 < 60300 = omega arith in x); stays = tt };
  framed = record { right = no_fault (map (λ n. n ∷ []) (9 ∷ 0 ∷ 1 ∷ 2 ∷ [])) (frame (9 ∷ []) ++ frame (0 ∷ []) ++ frame (1 ∷ []) ++ frame (2 ∷ [])) refl (all_small (9 ∷ 0 ∷ 1 ∷ 2 ∷ [])); alone = λ h. let x : false ≡ true = h in cc };
}

c9 : (response : List ℕ) (encode : Reply → List ℕ) → Conforming ac_post (s9 response encode)
unfolding reading.whole_at
c9 response encode = record {
  earlier = c8 response encode;
  goes_on = (refl, record { in_row = refl; named = λ h. refl; made = (refl, (refl, tt)) });
  framed = record { right = no_fault (map (λ n. n ∷ []) (9 ∷ 0 ∷ 1 ∷ 2 ∷ [])) (frame (9 ∷ []) ++ frame (0 ∷ []) ++ frame (1 ∷ []) ++ frame (2 ∷ [])) refl (all_small (9 ∷ 0 ∷ 1 ∷ 2 ∷ [])); alone = λ h. let x : false ≡ true = h in cc };
}

c10 : (response : List ℕ) (encode : Reply → List ℕ) → Conforming ac_post (s10 response encode)
unfolding reading.whole_at
c10 response encode = record {
  earlier = c9 response encode;
  goes_on = record { early = (let x : 500 < 60400 = omega arith in x); stays = tt };
  framed = record { right = no_fault (map (λ n. n ∷ []) (9 ∷ 0 ∷ 1 ∷ 2 ∷ 3 ∷ [])) (frame (9 ∷ []) ++ frame (0 ∷ []) ++ frame (1 ∷ []) ++ frame (2 ∷ []) ++ frame (3 ∷ [])) refl (all_small (9 ∷ 0 ∷ 1 ∷ 2 ∷ 3 ∷ [])); alone = λ h. let x : false ≡ true = h in cc };
}

c11 : (response : List ℕ) (encode : Reply → List ℕ) → Conforming ac_post (s11 response encode)
unfolding reading.whole_at
c11 response encode = record {
  earlier = c10 response encode;
  goes_on = (refl, record { in_row = refl; named = λ h. refl; made = tt });
  framed = record { right = no_fault (map (λ n. n ∷ []) (9 ∷ 0 ∷ 1 ∷ 2 ∷ 3 ∷ [])) (frame (9 ∷ []) ++ frame (0 ∷ []) ++ frame (1 ∷ []) ++ frame (2 ∷ []) ++ frame (3 ∷ [])) refl (all_small (9 ∷ 0 ∷ 1 ∷ 2 ∷ 3 ∷ [])); alone = λ h. let x : false ≡ true = h in cc };
}

c12 : (response : List ℕ) (encode : Reply → List ℕ) → Conforming ac_post (s12 response encode)
unfolding reading.whole_at
c12 response encode = record {
  earlier = c11 response encode;
  goes_on = record { early = (let x : 600 < 60500 = omega arith in x); stays = tt };
  framed = record { right = no_fault (map (λ n. n ∷ []) (9 ∷ 0 ∷ 1 ∷ 2 ∷ 3 ∷ 4 ∷ [])) (frame (9 ∷ []) ++ frame (0 ∷ []) ++ frame (1 ∷ []) ++ frame (2 ∷ []) ++ frame (3 ∷ []) ++ frame (4 ∷ [])) refl (all_small (9 ∷ 0 ∷ 1 ∷ 2 ∷ 3 ∷ 4 ∷ [])); alone = λ h. let x : false ≡ true = h in cc };
}

c13 : (response : List ℕ) (encode : Reply → List ℕ) → Conforming ac_post (s13 response encode)
unfolding reading.whole_at
c13 response encode = record {
  earlier = c12 response encode;
  goes_on = (refl, record { in_row = refl; named = λ h. refl; made = record { mode_is = refl; can_take = record { units = record { volts = refl; amperes = refl }; within = (let x : 4140 ≤ 50000 = omega arith in x) }; some_watts = (let x : 0 < 22080 = omega arith in x) } });
  framed = record { right = no_fault (map (λ n. n ∷ []) (9 ∷ 0 ∷ 1 ∷ 2 ∷ 3 ∷ 4 ∷ [])) (frame (9 ∷ []) ++ frame (0 ∷ []) ++ frame (1 ∷ []) ++ frame (2 ∷ []) ++ frame (3 ∷ []) ++ frame (4 ∷ [])) refl (all_small (9 ∷ 0 ∷ 1 ∷ 2 ∷ 3 ∷ 4 ∷ [])); alone = λ h. let x : false ≡ true = h in cc };
}

c14 : (response : List ℕ) (encode : Reply → List ℕ) → Conforming ac_post (s14 response encode)
unfolding reading.whole_at
c14 response encode = record {
  earlier = c13 response encode;
  goes_on = record { early = (let x : 700 < 60600 = omega arith in x); stays = tt };
  framed = record { right = no_fault (map (λ n. n ∷ []) (9 ∷ 0 ∷ 1 ∷ 2 ∷ 3 ∷ 4 ∷ 5 ∷ [])) (frame (9 ∷ []) ++ frame (0 ∷ []) ++ frame (1 ∷ []) ++ frame (2 ∷ []) ++ frame (3 ∷ []) ++ frame (4 ∷ []) ++ frame (5 ∷ [])) refl (all_small (9 ∷ 0 ∷ 1 ∷ 2 ∷ 3 ∷ 4 ∷ 5 ∷ [])); alone = λ h. let x : false ≡ true = h in cc };
}

c15 : (response : List ℕ) (encode : Reply → List ℕ) → Conforming ac_post (s15 response encode)
unfolding reading.whole_at
c15 response encode = record {
  earlier = c14 response encode;
  goes_on = (refl, record { in_row = refl; named = λ h. refl; made = record { delivery = record { tuple_is = refl; profile_is = refl }; ready = refl; opened = refl; near = λ h. cc } });
  framed = record { right = no_fault (map (λ n. n ∷ []) (9 ∷ 0 ∷ 1 ∷ 2 ∷ 3 ∷ 4 ∷ 5 ∷ [])) (frame (9 ∷ []) ++ frame (0 ∷ []) ++ frame (1 ∷ []) ++ frame (2 ∷ []) ++ frame (3 ∷ []) ++ frame (4 ∷ []) ++ frame (5 ∷ [])) refl (all_small (9 ∷ 0 ∷ 1 ∷ 2 ∷ 3 ∷ 4 ∷ 5 ∷ [])); alone = λ h. refl };
}

c16 : (response : List ℕ) (encode : Reply → List ℕ) → Conforming ac_post (s16 response encode)
unfolding reading.whole_at
c16 response encode = record {
  earlier = c15 response encode;
  goes_on = record { early = (let x : 750 < 3700 = omega arith in x); stays = refl };
  framed = record { right = no_fault (map (λ n. n ∷ []) (9 ∷ 0 ∷ 1 ∷ 2 ∷ 3 ∷ 4 ∷ 5 ∷ [])) (frame (9 ∷ []) ++ frame (0 ∷ []) ++ frame (1 ∷ []) ++ frame (2 ∷ []) ++ frame (3 ∷ []) ++ frame (4 ∷ []) ++ frame (5 ∷ [])) refl (all_small (9 ∷ 0 ∷ 1 ∷ 2 ∷ 3 ∷ 4 ∷ 5 ∷ [])); alone = λ h. refl };
}

c17 : (response : List ℕ) (encode : Reply → List ℕ) → Conforming ac_post (s17 response encode)
unfolding reading.whole_at
c17 response encode = record {
  earlier = c16 response encode;
  goes_on = (refl, tt);
  framed = record { right = no_fault (map (λ n. n ∷ []) (9 ∷ 0 ∷ 1 ∷ 2 ∷ 3 ∷ 4 ∷ 5 ∷ [])) (frame (9 ∷ []) ++ frame (0 ∷ []) ++ frame (1 ∷ []) ++ frame (2 ∷ []) ++ frame (3 ∷ []) ++ frame (4 ∷ []) ++ frame (5 ∷ [])) refl (all_small (9 ∷ 0 ∷ 1 ∷ 2 ∷ 3 ∷ 4 ∷ 5 ∷ [])); alone = λ h. let x : false ≡ true = h in cc };
}

c18 : (response : List ℕ) (encode : Reply → List ℕ) → Conforming ac_post (s18 response encode)
unfolding reading.whole_at
c18 response encode = record {
  earlier = c17 response encode;
  goes_on = record { early = (let x : 800 < 60750 = omega arith in x); stays = tt };
  framed = record { right = no_fault (map (λ n. n ∷ []) (9 ∷ 0 ∷ 1 ∷ 2 ∷ 3 ∷ 4 ∷ 5 ∷ 6 ∷ [])) (frame (9 ∷ []) ++ frame (0 ∷ []) ++ frame (1 ∷ []) ++ frame (2 ∷ []) ++ frame (3 ∷ []) ++ frame (4 ∷ []) ++ frame (5 ∷ []) ++ frame (6 ∷ [])) refl (all_small (9 ∷ 0 ∷ 1 ∷ 2 ∷ 3 ∷ 4 ∷ 5 ∷ 6 ∷ [])); alone = λ h. let x : false ≡ true = h in cc };
}

c19 : (response : List ℕ) (encode : Reply → List ℕ) → Conforming ac_post (s19 response encode)
unfolding reading.whole_at
c19 response encode = record {
  earlier = c18 response encode;
  goes_on = (refl, record { in_row = refl; named = λ h. refl; made = tt });
  framed = record { right = no_fault (map (λ n. n ∷ []) (9 ∷ 0 ∷ 1 ∷ 2 ∷ 3 ∷ 4 ∷ 5 ∷ 6 ∷ [])) (frame (9 ∷ []) ++ frame (0 ∷ []) ++ frame (1 ∷ []) ++ frame (2 ∷ []) ++ frame (3 ∷ []) ++ frame (4 ∷ []) ++ frame (5 ∷ []) ++ frame (6 ∷ [])) refl (all_small (9 ∷ 0 ∷ 1 ∷ 2 ∷ 3 ∷ 4 ∷ 5 ∷ 6 ∷ [])); alone = λ h. let x : false ≡ true = h in cc };
}

c20 : (response : List ℕ) (encode : Reply → List ℕ) → Conforming ac_post (s20 response encode)
unfolding reading.whole_at
c20 response encode = record {
  earlier = c19 response encode;
  goes_on = (refl, tt);
  framed = record { right = no_fault (map (λ n. n ∷ []) (9 ∷ 0 ∷ 1 ∷ 2 ∷ 3 ∷ 4 ∷ 5 ∷ 6 ∷ [])) (frame (9 ∷ []) ++ frame (0 ∷ []) ++ frame (1 ∷ []) ++ frame (2 ∷ []) ++ frame (3 ∷ []) ++ frame (4 ∷ []) ++ frame (5 ∷ []) ++ frame (6 ∷ [])) refl (all_small (9 ∷ 0 ∷ 1 ∷ 2 ∷ 3 ∷ 4 ∷ 5 ∷ 6 ∷ [])); alone = λ h. let x : false ≡ true = h in cc };
}

c21 : (response : List ℕ) (encode : Reply → List ℕ) → Conforming ac_post (s21 response encode)
unfolding reading.whole_at
c21 response encode = record {
  earlier = c20 response encode;
  goes_on = record { early = (let x : 900 < 60800 = omega arith in x); stays = tt };
  framed = record { right = no_fault (map (λ n. n ∷ []) (9 ∷ 0 ∷ 1 ∷ 2 ∷ 3 ∷ 4 ∷ 5 ∷ 6 ∷ 7 ∷ [])) (frame (9 ∷ []) ++ frame (0 ∷ []) ++ frame (1 ∷ []) ++ frame (2 ∷ []) ++ frame (3 ∷ []) ++ frame (4 ∷ []) ++ frame (5 ∷ []) ++ frame (6 ∷ []) ++ frame (7 ∷ [])) refl (all_small (9 ∷ 0 ∷ 1 ∷ 2 ∷ 3 ∷ 4 ∷ 5 ∷ 6 ∷ 7 ∷ [])); alone = λ h. let x : false ≡ true = h in cc };
}

c22 : (response : List ℕ) (encode : Reply → List ℕ) → Conforming ac_post (s22 response encode)
unfolding reading.whole_at
c22 response encode = record {
  earlier = c21 response encode;
  goes_on = (refl, record { in_row = refl; named = λ h. refl; made = record { tuple_is = refl; profile_is = refl } });
  framed = record { right = no_fault (map (λ n. n ∷ []) (9 ∷ 0 ∷ 1 ∷ 2 ∷ 3 ∷ 4 ∷ 5 ∷ 6 ∷ 7 ∷ [])) (frame (9 ∷ []) ++ frame (0 ∷ []) ++ frame (1 ∷ []) ++ frame (2 ∷ []) ++ frame (3 ∷ []) ++ frame (4 ∷ []) ++ frame (5 ∷ []) ++ frame (6 ∷ []) ++ frame (7 ∷ [])) refl (all_small (9 ∷ 0 ∷ 1 ∷ 2 ∷ 3 ∷ 4 ∷ 5 ∷ 6 ∷ 7 ∷ [])); alone = λ h. let x : false ≡ true = h in cc };
}

c23 : (response : List ℕ) (encode : Reply → List ℕ) → Conforming ac_post (s23 response encode)
unfolding reading.whole_at
c23 response encode = record {
  earlier = c22 response encode;
  goes_on = (refl, tt);
  framed = record { right = no_fault (map (λ n. n ∷ []) (9 ∷ 0 ∷ 1 ∷ 2 ∷ 3 ∷ 4 ∷ 5 ∷ 6 ∷ 7 ∷ [])) (frame (9 ∷ []) ++ frame (0 ∷ []) ++ frame (1 ∷ []) ++ frame (2 ∷ []) ++ frame (3 ∷ []) ++ frame (4 ∷ []) ++ frame (5 ∷ []) ++ frame (6 ∷ []) ++ frame (7 ∷ [])) refl (all_small (9 ∷ 0 ∷ 1 ∷ 2 ∷ 3 ∷ 4 ∷ 5 ∷ 6 ∷ 7 ∷ [])); alone = λ h. let x : false ≡ true = h in cc };
}

c24 : (response : List ℕ) (encode : Reply → List ℕ) → Conforming ac_post (s24 response encode)
unfolding reading.whole_at
c24 response encode = record {
  earlier = c23 response encode;
  goes_on = record { early = (let x : 1000 < 60900 = omega arith in x); stays = tt };
  framed = record { right = no_fault (map (λ n. n ∷ []) (9 ∷ 0 ∷ 1 ∷ 2 ∷ 3 ∷ 4 ∷ 5 ∷ 6 ∷ 7 ∷ 8 ∷ [])) (frame (9 ∷ []) ++ frame (0 ∷ []) ++ frame (1 ∷ []) ++ frame (2 ∷ []) ++ frame (3 ∷ []) ++ frame (4 ∷ []) ++ frame (5 ∷ []) ++ frame (6 ∷ []) ++ frame (7 ∷ []) ++ frame (8 ∷ [])) refl (all_small (9 ∷ 0 ∷ 1 ∷ 2 ∷ 3 ∷ 4 ∷ 5 ∷ 6 ∷ 7 ∷ 8 ∷ [])); alone = λ h. let x : false ≡ true = h in cc };
}

c25 : (response : List ℕ) (encode : Reply → List ℕ) → Conforming ac_post (s25 response encode)
unfolding reading.whole_at
c25 response encode = record {
  earlier = c24 response encode;
  goes_on = (refl, record { in_row = refl; named = λ h. refl; made = tt });
  framed = record { right = no_fault (map (λ n. n ∷ []) (9 ∷ 0 ∷ 1 ∷ 2 ∷ 3 ∷ 4 ∷ 5 ∷ 6 ∷ 7 ∷ 8 ∷ [])) (frame (9 ∷ []) ++ frame (0 ∷ []) ++ frame (1 ∷ []) ++ frame (2 ∷ []) ++ frame (3 ∷ []) ++ frame (4 ∷ []) ++ frame (5 ∷ []) ++ frame (6 ∷ []) ++ frame (7 ∷ []) ++ frame (8 ∷ [])) refl (all_small (9 ∷ 0 ∷ 1 ∷ 2 ∷ 3 ∷ 4 ∷ 5 ∷ 6 ∷ 7 ∷ 8 ∷ [])); alone = λ h. let x : false ≡ true = h in cc };
}

c26 : (response : List ℕ) (encode : Reply → List ℕ) → Conforming ac_post (s26 response encode)
unfolding reading.whole_at
c26 response encode = record {
  earlier = c25 response encode;
  goes_on = (refl, tt);
  framed = tt;
}

-- and they are a run

r0 : (c : Codecs) (response : List ℕ) (encode : Reply → List ℕ) → Spells c response encode → IsRun c one_post (past_of (s0 response encode)) (post_of (s0 response encode) ∷ [])
unfolding reading.whole_at
r0 c response encode i = hears c 0 (Came token) [] refl (record { none = refl; no_word = refl }) refl (omega arith) (omega arith, omega arith) (record { moment = omega arith; brings = (omega arith, refl) }) refl

r1 : (c : Codecs) (response : List ℕ) (encode : Reply → List ℕ) → Spells c response encode → IsRun c one_post (past_of (s1 response encode)) (post_of (s1 response encode) ∷ [])
unfolding reading.whole_at
r1 c response encode i = hears c 10 (Plant (plant.Pilot C)) (s0 response encode) (r0 c response encode i) (record { none = refl; no_word = refl }) refl (omega arith) (omega arith, omega arith) (record { moment = omega arith; brings = (tt, refl) }) refl

r2 : (c : Codecs) (response : List ℕ) (encode : Reply → List ℕ) → Spells c response encode → IsRun c one_post (past_of (s2 response encode)) (post_of (s2 response encode) ∷ [])
unfolding reading.whole_at
r2 c response encode i = hears c 100 (Bytes (frame (9 ∷ []))) (s1 response encode) (r1 c response encode i) (record { none = refl; no_word = refl }) refl (omega arith) (omega arith, omega arith) (record { moment = omega arith; brings = (omega arith, omega arith, record { count = refl; bounds = (omega arith, (omega arith, (omega arith, (omega arith, (omega arith, (omega arith, (omega arith, (omega arith, (omega arith, tt))))))))) }) }) refl

r3 : (c : Codecs) (response : List ℕ) (encode : Reply → List ℕ) → Spells c response encode → IsRun c one_post (past_of (s3 response encode)) (post_of (s3 response encode) ∷ [])
unfolding reading.whole_at
r3 c response encode i = acts c encode (negotiated response) (s2 response encode) _ (r2 c response encode i) (i.negotiates, refl) refl (frame response, refl, refl)

r4 : (c : Codecs) (response : List ℕ) (encode : Reply → List ℕ) → Spells c response encode → IsRun c one_post (past_of (s4 response encode)) (post_of (s4 response encode) ∷ [])
unfolding reading.whole_at
r4 c response encode i = hears c 200 (Bytes (frame (0 ∷ []))) (s3 response encode) (r3 c response encode i) (record { none = refl; no_word = refl }) refl (omega arith) (omega arith, omega arith) (record { moment = omega arith; brings = (omega arith, omega arith, record { count = refl; bounds = (omega arith, (omega arith, (omega arith, (omega arith, (omega arith, (omega arith, (omega arith, (omega arith, (omega arith, tt))))))))) }) }) refl

r5 : (c : Codecs) (response : List ℕ) (encode : Reply → List ℕ) → Spells c response encode → IsRun c one_post (past_of (s5 response encode)) (post_of (s5 response encode) ∷ [])
unfolding reading.whole_at
r5 c response encode i = acts c encode (word_shown 0 0) (s4 response encode) _ (r4 c response encode i) ((Some (word.Request (request 0)), i.reads 0, refl), refl) refl (_, (_, i.encodes _, refl), refl)

r6 : (c : Codecs) (response : List ℕ) (encode : Reply → List ℕ) → Spells c response encode → IsRun c one_post (past_of (s6 response encode)) (post_of (s6 response encode) ∷ [])
unfolding reading.whole_at
r6 c response encode i = hears c 300 (Bytes (frame (1 ∷ []))) (s5 response encode) (r5 c response encode i) (record { none = refl; no_word = refl }) refl (omega arith) (omega arith, omega arith) (record { moment = omega arith; brings = (omega arith, omega arith, record { count = refl; bounds = (omega arith, (omega arith, (omega arith, (omega arith, (omega arith, (omega arith, (omega arith, (omega arith, (omega arith, tt))))))))) }) }) refl

r7 : (c : Codecs) (response : List ℕ) (encode : Reply → List ℕ) → Spells c response encode → IsRun c one_post (past_of (s7 response encode)) (post_of (s7 response encode) ∷ [])
unfolding reading.whole_at
r7 c response encode i = acts c encode (word_shown 1 0) (s6 response encode) _ (r6 c response encode i) ((Some (word.Request (request 1)), i.reads 1, refl), refl) refl (_, (_, i.encodes _, refl), refl)

r8 : (c : Codecs) (response : List ℕ) (encode : Reply → List ℕ) → Spells c response encode → IsRun c one_post (past_of (s8 response encode)) (post_of (s8 response encode) ∷ [])
unfolding reading.whole_at
r8 c response encode i = hears c 400 (Bytes (frame (2 ∷ []))) (s7 response encode) (r7 c response encode i) (record { none = refl; no_word = refl }) refl (omega arith) (omega arith, omega arith) (record { moment = omega arith; brings = (omega arith, omega arith, record { count = refl; bounds = (omega arith, (omega arith, (omega arith, (omega arith, (omega arith, (omega arith, (omega arith, (omega arith, (omega arith, tt))))))))) }) }) refl

r9 : (c : Codecs) (response : List ℕ) (encode : Reply → List ℕ) → Spells c response encode → IsRun c one_post (past_of (s9 response encode)) (post_of (s9 response encode) ∷ [])
unfolding reading.whole_at
r9 c response encode i = acts c encode (word_shown 2 0) (s8 response encode) _ (r8 c response encode i) ((Some (word.Request (request 2)), i.reads 2, refl), refl) refl (_, (_, i.encodes _, refl), refl)

r10 : (c : Codecs) (response : List ℕ) (encode : Reply → List ℕ) → Spells c response encode → IsRun c one_post (past_of (s10 response encode)) (post_of (s10 response encode) ∷ [])
unfolding reading.whole_at
r10 c response encode i = hears c 500 (Bytes (frame (3 ∷ []))) (s9 response encode) (r9 c response encode i) (record { none = refl; no_word = refl }) refl (omega arith) (omega arith, omega arith) (record { moment = omega arith; brings = (omega arith, omega arith, record { count = refl; bounds = (omega arith, (omega arith, (omega arith, (omega arith, (omega arith, (omega arith, (omega arith, (omega arith, (omega arith, tt))))))))) }) }) refl

r11 : (c : Codecs) (response : List ℕ) (encode : Reply → List ℕ) → Spells c response encode → IsRun c one_post (past_of (s11 response encode)) (post_of (s11 response encode) ∷ [])
unfolding reading.whole_at
r11 c response encode i = acts c encode (word_shown 3 0) (s10 response encode) _ (r10 c response encode i) ((Some (word.Request (request 3)), i.reads 3, refl), refl) refl (_, (_, i.encodes _, refl), refl)

r12 : (c : Codecs) (response : List ℕ) (encode : Reply → List ℕ) → Spells c response encode → IsRun c one_post (past_of (s12 response encode)) (post_of (s12 response encode) ∷ [])
unfolding reading.whole_at
r12 c response encode i = hears c 600 (Bytes (frame (4 ∷ []))) (s11 response encode) (r11 c response encode i) (record { none = refl; no_word = refl }) refl (omega arith) (omega arith, omega arith) (record { moment = omega arith; brings = (omega arith, omega arith, record { count = refl; bounds = (omega arith, (omega arith, (omega arith, (omega arith, (omega arith, (omega arith, (omega arith, (omega arith, (omega arith, tt))))))))) }) }) refl

r13 : (c : Codecs) (response : List ℕ) (encode : Reply → List ℕ) → Spells c response encode → IsRun c one_post (past_of (s13 response encode)) (post_of (s13 response encode) ∷ [])
unfolding reading.whole_at
r13 c response encode i = acts c encode (word_shown 4 22080) (s12 response encode) _ (r12 c response encode i) ((Some (word.Request (request 4)), i.reads 4, refl), alone_shown) refl (_, (_, i.encodes _, refl), refl)

r14 : (c : Codecs) (response : List ℕ) (encode : Reply → List ℕ) → Spells c response encode → IsRun c one_post (past_of (s14 response encode)) (post_of (s14 response encode) ∷ [])
unfolding reading.whole_at
r14 c response encode i = hears c 700 (Bytes (frame (5 ∷ []))) (s13 response encode) (r13 c response encode i) (record { none = refl; no_word = refl }) refl (omega arith) (omega arith, omega arith) (record { moment = omega arith; brings = (omega arith, omega arith, record { count = refl; bounds = (omega arith, (omega arith, (omega arith, (omega arith, (omega arith, (omega arith, (omega arith, (omega arith, (omega arith, tt))))))))) }) }) refl

r15 : (c : Codecs) (response : List ℕ) (encode : Reply → List ℕ) → Spells c response encode → IsRun c one_post (past_of (s15 response encode)) (post_of (s15 response encode) ∷ [])
unfolding reading.whole_at
r15 c response encode i = acts c encode (word_shown 5 0) (s14 response encode) _ (r14 c response encode i) ((Some (word.Request (request 5)), i.reads 5, refl), refl) refl refl

r16 : (c : Codecs) (response : List ℕ) (encode : Reply → List ℕ) → Spells c response encode → IsRun c one_post (past_of (s16 response encode)) (post_of (s16 response encode) ∷ [])
unfolding reading.whole_at
r16 c response encode i = hears c 750 (Plant (plant.Feedback true)) (s15 response encode) (r15 c response encode i) (record { none = refl; no_word = refl }) refl (omega arith) (omega arith, omega arith) (record { moment = omega arith; brings = (tt, refl) }) refl

r17 : (c : Codecs) (response : List ℕ) (encode : Reply → List ℕ) → Spells c response encode → IsRun c one_post (past_of (s17 response encode)) (post_of (s17 response encode) ∷ [])
unfolding reading.whole_at
r17 c response encode i = acts c encode (None) (s16 response encode) _ (r16 c response encode i) tt refl (_, (_, i.encodes _, refl), refl)

r18 : (c : Codecs) (response : List ℕ) (encode : Reply → List ℕ) → Spells c response encode → IsRun c one_post (past_of (s18 response encode)) (post_of (s18 response encode) ∷ [])
unfolding reading.whole_at
r18 c response encode i = hears c 800 (Bytes (frame (6 ∷ []))) (s17 response encode) (r17 c response encode i) (record { none = refl; no_word = refl }) refl (omega arith) (omega arith, omega arith) (record { moment = omega arith; brings = (omega arith, omega arith, record { count = refl; bounds = (omega arith, (omega arith, (omega arith, (omega arith, (omega arith, (omega arith, (omega arith, (omega arith, (omega arith, tt))))))))) }) }) refl

r19 : (c : Codecs) (response : List ℕ) (encode : Reply → List ℕ) → Spells c response encode → IsRun c one_post (past_of (s19 response encode)) (post_of (s19 response encode) ∷ [])
unfolding reading.whole_at
r19 c response encode i = acts c encode (word_shown 6 22080) (s18 response encode) _ (r18 c response encode i) ((Some (word.Request (request 6)), i.reads 6, refl), alone_shown) refl refl

r20 : (c : Codecs) (response : List ℕ) (encode : Reply → List ℕ) → Spells c response encode → IsRun c one_post (past_of (s20 response encode)) (post_of (s20 response encode) ∷ [])
unfolding reading.whole_at
r20 c response encode i = acts c encode (None) (s19 response encode) _ (r19 c response encode i) tt refl (_, (_, i.encodes _, refl), refl)

r21 : (c : Codecs) (response : List ℕ) (encode : Reply → List ℕ) → Spells c response encode → IsRun c one_post (past_of (s21 response encode)) (post_of (s21 response encode) ∷ [])
unfolding reading.whole_at
r21 c response encode i = hears c 900 (Bytes (frame (7 ∷ []))) (s20 response encode) (r20 c response encode i) (record { none = refl; no_word = refl }) refl (omega arith) (omega arith, omega arith) (record { moment = omega arith; brings = (omega arith, omega arith, record { count = refl; bounds = (omega arith, (omega arith, (omega arith, (omega arith, (omega arith, (omega arith, (omega arith, (omega arith, (omega arith, tt))))))))) }) }) refl

r22 : (c : Codecs) (response : List ℕ) (encode : Reply → List ℕ) → Spells c response encode → IsRun c one_post (past_of (s22 response encode)) (post_of (s22 response encode) ∷ [])
unfolding reading.whole_at
r22 c response encode i = acts c encode (word_shown 7 0) (s21 response encode) _ (r21 c response encode i) ((Some (word.Request (request 7)), i.reads 7, refl), refl) refl refl

r23 : (c : Codecs) (response : List ℕ) (encode : Reply → List ℕ) → Spells c response encode → IsRun c one_post (past_of (s23 response encode)) (post_of (s23 response encode) ∷ [])
unfolding reading.whole_at
r23 c response encode i = acts c encode (None) (s22 response encode) _ (r22 c response encode i) tt refl (_, (_, i.encodes _, refl), refl)

r24 : (c : Codecs) (response : List ℕ) (encode : Reply → List ℕ) → Spells c response encode → IsRun c one_post (past_of (s24 response encode)) (post_of (s24 response encode) ∷ [])
unfolding reading.whole_at
r24 c response encode i = hears c 1000 (Bytes (frame (8 ∷ []))) (s23 response encode) (r23 c response encode i) (record { none = refl; no_word = refl }) refl (omega arith) (omega arith, omega arith) (record { moment = omega arith; brings = (omega arith, omega arith, record { count = refl; bounds = (omega arith, (omega arith, (omega arith, (omega arith, (omega arith, (omega arith, (omega arith, (omega arith, (omega arith, tt))))))))) }) }) refl

r25 : (c : Codecs) (response : List ℕ) (encode : Reply → List ℕ) → Spells c response encode → IsRun c one_post (past_of (s25 response encode)) (post_of (s25 response encode) ∷ [])
unfolding reading.whole_at
r25 c response encode i = acts c encode (word_shown 8 0) (s24 response encode) _ (r24 c response encode i) ((Some (word.Request (request 8)), i.reads 8, refl), refl) refl (_, (_, i.encodes _, refl), refl)

r26 : (c : Codecs) (response : List ℕ) (encode : Reply → List ℕ) → Spells c response encode → IsRun c one_post (past_of (s26 response encode)) (post_of (s26 response encode) ∷ [])
unfolding reading.whole_at
r26 c response encode i = acts c encode (None) (s25 response encode) _ (r25 c response encode i) tt refl (refl, refl)

pub session_conforms : (c : Codecs) → SessionConforms c
session_conforms c response encode i = (r26 c response encode i, c26 response encode)
