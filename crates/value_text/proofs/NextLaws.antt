-- What stands next in a text.
use Rattle.std.proofs.Common.{◌≡◌, ℕ, Bool, false, List, [], ◌∷◌, ◌++◌, length, ◌<◌, sym, ap, subst, ◌∙◌, append_assoc, arith}
use Rattle.std.specs.Prelude.{encode_utf8}
use Rattle.std.specs.Str.{encode_utf8_all}
use Rattle.std.proofs.lemmas.List.{append-nil, length-append}
use Rattle.std.proofs.lemmas.Str.{encode_same, length-encode, len_utf8_bounds}
use Rattle.value_text.specs.declared.cursor.TextCursor.{TextCursor}
use Rattle.value_text.specs.Forms.{NoneNext}
use Rattle.value_text.specs.Scanning.{Passes}

pub some_bytes : (c : ℕ) (rest : List ℕ) → encode_utf8 c ++ rest ≡ [] → ⊥
some_bytes c rest e = omega (arith, ap length e, length-append (encode_utf8 c) rest, length-encode c, (len_utf8_bounds c).0)

pub none_at_end : (test : ℕ → Bool) (text : List ℕ) → text ≡ [] → NoneNext test text
none_at_end test text e c more at = absurd (some_bytes c more (sym at ∙ e))

pub none_at : (test : ℕ → Bool) (text rest : List ℕ) (c : ℕ) → text ≡ encode_utf8_all (c ∷ []) ++ rest → test c ≡ false → NoneNext test text
none_at test text rest c e fails d more at =
    let same = encode_same c d rest more (ap (λ (bs : List ℕ). bs ++ rest) (sym (append-nil (encode_utf8 c))) ∙ sym e ∙ at) in
    subst (λ (n : ℕ). test n ≡ false) same.0 fails

-- what a cursor passes makes the rest shorter
pub passes_shorter : (a b : TextCursor) (c : ℕ) (front : List ℕ) → Passes a (c ∷ front) b → length b.rest.now < length a.rest.now
passes_shorter a b c front p =
    let whole = p.stands ∙ append_assoc (encode_utf8 c) (encode_utf8_all front) b.rest.now in
    omega (arith, ap length whole, length-append (encode_utf8 c) (encode_utf8_all front ++ b.rest.now), length-append (encode_utf8_all front) b.rest.now, length-encode c, (len_utf8_bounds c).0)
