-- The second session conforms, by computing.
use Rattle.std.proofs.Common.{◌≡◌, ◌<◌, ℕ, true, false, List, [], ◌∷◌, map, refl, arith}
use Rattle.v2gtp_frames.specs.Frames.{Frames, IsRight}
use Rattle.v2gtp_frames.specs.Reading as reading
use Rattle.site_examples.specs.LaterSession.{LaterConforms}
use Rattle.site_examples.proofs.OneCharge.{no_fault, all_small}

nothing_wrong : (ps : List (List ℕ)) (rest : List ℕ) → Frames [] ps rest → IsRight rest
nothing_wrong = no_fault (map (λ n. n ∷ []) ([])) ([]) refl (all_small ([]))

pub later_conforms : LaterConforms
unfolding reading.whole_at
later_conforms = (
  λ h. h.goes_on.stays,
  record {
    earlier = record {
      earlier = record {
        earlier = record {
          earlier = tt;
          goes_on = record { early = (let x : 40 < 18030 = omega arith in x); stays = refl };
          framed = record { right = nothing_wrong; alone = λ h. let x : false ≡ true = h in cc };
        };
        goes_on = (refl, tt);
        framed = record { right = nothing_wrong; alone = λ h. let x : false ≡ true = h in cc };
      };
      goes_on = record { early = (let x : 50 < 18030 = omega arith in x); stays = tt };
      framed = record { right = nothing_wrong; alone = λ h. let x : false ≡ true = h in cc };
    };
    goes_on = (tt, tt);
    framed = record { right = nothing_wrong; alone = λ h. let x : false ≡ true = h in cc };
  },
)
