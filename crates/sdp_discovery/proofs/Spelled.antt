-- A datagram that has every field right is the spelling of what it says.
use Rattle.std.proofs.Common.{true, false, ◌≡◌, ℕ, ◌+◌, ◌*◌, ◌/◌, ◌%◌, ◌<◌, Bool, List, [], ◌∷◌, ◌++◌, length, take, drop, get_or, set, refl, sym, ap, subst, ◌∙◌, arith}
use Rattle.std.proofs.lemmas.List.{nil_from_length, length-take, length-drop, get_or-drop}
use Rattle.std.proofs.lemmas.Slice.Eq.{text_from_reads}
use borrow.Rule.Slice.PartMut.{put_mid}
use Rattle.byteorder.specs.Endian.{big_number, big_bytes}
use Rattle.sdp_discovery.specs.declared.message.SdpResponse.{SdpResponse}
use Rattle.sdp_discovery.specs.Discovery.{request_type, response_type, request_spelling, response_spelling, security, tcp, security_of, transport_of, HasLength, IsResponse}
use Rattle.v2gtp_frames.specs.Header.{header}

abbrev pub IsBytes : List ℕ → Type 0
IsBytes bytes = (i : ℕ) → get_or bytes i 0 < 256

pub request_is : (bytes : List ℕ) (tls : Bool) → IsBytes bytes → HasLength request_type 2 bytes → security_of 2 bytes ≡ security tls → transport_of 2 bytes ≡ tcp
    → bytes ≡ request_spelling (record { tls = tls })
request_is bytes tls fits has s t =
    text_from_reads bytes (1 ∷ 254 ∷ 144 ∷ 0 ∷ 0 ∷ 0 ∷ 0 ∷ 2 ∷ security tls ∷ 0 ∷ []) has.1 (
      omega (arith, has.0.0.1, fits 0, fits 1),
      (
        omega (arith, has.0.0.1, fits 0, fits 1),
        (
          omega (arith, has.0.2, fits 2, fits 3, get_or-drop 2 bytes 0 0, get_or-drop 2 bytes 1 0),
          (
            omega (arith, has.0.2, fits 2, fits 3, get_or-drop 2 bytes 0 0, get_or-drop 2 bytes 1 0),
            (
              omega (arith, has.2, fits 4, fits 5, fits 6, fits 7, get_or-drop 4 bytes 0 0, get_or-drop 4 bytes 1 0, get_or-drop 4 bytes 2 0, get_or-drop 4 bytes 3 0),
              (
                omega (arith, has.2, fits 4, fits 5, fits 6, fits 7, get_or-drop 4 bytes 0 0, get_or-drop 4 bytes 1 0, get_or-drop 4 bytes 2 0, get_or-drop 4 bytes 3 0),
                (
                  omega (arith, has.2, fits 4, fits 5, fits 6, fits 7, get_or-drop 4 bytes 0 0, get_or-drop 4 bytes 1 0, get_or-drop 4 bytes 2 0, get_or-drop 4 bytes 3 0),
                  (
                    omega (arith, has.2, fits 4, fits 5, fits 6, fits 7, get_or-drop 4 bytes 0 0, get_or-drop 4 bytes 1 0, get_or-drop 4 bytes 2 0, get_or-drop 4 bytes 3 0),
                    (s, (t, tt)),
                  ),
                ),
              ),
            ),
          ),
        ),
      ),
    )

-- sixteen bytes, one by one
sixteen : (l : List ℕ) → length l ≡ 16
    → l ≡ get_or l 0 0 ∷ get_or l 1 0 ∷ get_or l 2 0 ∷ get_or l 3 0 ∷ get_or l 4 0 ∷ get_or l 5 0 ∷ get_or l 6 0 ∷ get_or l 7 0
    ∷ get_or l 8 0 ∷ get_or l 9 0 ∷ get_or l 10 0 ∷ get_or l 11 0 ∷ get_or l 12 0 ∷ get_or l 13 0 ∷ get_or l 14 0 ∷ get_or l 15 0 ∷ []
sixteen l len = text_from_reads l _ len (refl, (refl, (refl, (refl, (refl, (refl, (refl, (refl, (refl, (refl, (refl, (refl, (refl, (refl, (refl, (refl, tt))))))))))))))))

twenty_eight : (l : List ℕ) → length l ≡ 28
    → l ≡ get_or l 0 0 ∷ get_or l 1 0 ∷ get_or l 2 0 ∷ get_or l 3 0 ∷ get_or l 4 0 ∷ get_or l 5 0 ∷ get_or l 6 0 ∷ get_or l 7 0
    ∷ ((take 16 (drop 8 l) ++ get_or l 24 0 ∷ get_or l 25 0 ∷ []) ++ get_or l 26 0 ∷ get_or l 27 0 ∷ [])
twenty_eight l len =
    let all : l ≡ get_or l 0 0 ∷ get_or l 1 0 ∷ get_or l 2 0 ∷ get_or l 3 0 ∷ get_or l 4 0 ∷ get_or l 5 0 ∷ get_or l 6 0 ∷ get_or l 7 0
    ∷ get_or l 8 0 ∷ get_or l 9 0 ∷ get_or l 10 0 ∷ get_or l 11 0 ∷ get_or l 12 0 ∷ get_or l 13 0 ∷ get_or l 14 0 ∷ get_or l 15 0
    ∷ get_or l 16 0 ∷ get_or l 17 0 ∷ get_or l 18 0 ∷ get_or l 19 0 ∷ get_or l 20 0 ∷ get_or l 21 0 ∷ get_or l 22 0 ∷ get_or l 23 0
    ∷ get_or l 24 0 ∷ get_or l 25 0 ∷ get_or l 26 0 ∷ get_or l 27 0 ∷ [] =
    text_from_reads l _ len (refl, (refl, (refl, (refl, (refl, (refl, (refl, (refl, (refl, (refl, (refl, (refl, (refl, (refl, (refl, (refl, (refl, (refl, (refl, (refl, (refl, (refl, (refl, (refl, (refl, (refl, (refl, (refl, tt)))))))))))))))))))))))))))) in
    subst (λ (m : List ℕ). m ≡ get_or m 0 0 ∷ get_or m 1 0 ∷ get_or m 2 0 ∷ get_or m 3 0 ∷ get_or m 4 0 ∷ get_or m 5 0 ∷ get_or m 6 0 ∷ get_or m 7 0
    ∷ ((take 16 (drop 8 m) ++ get_or m 24 0 ∷ get_or m 25 0 ∷ []) ++ get_or m 26 0 ∷ get_or m 27 0 ∷ [])) (sym all) refl

pub response_is : (bytes : List ℕ) (tls : Bool) (port : ℕ) → IsBytes bytes → HasLength response_type 20 bytes → security_of 20 bytes ≡ security tls → transport_of 20 bytes ≡ tcp
    → port ≡ get_or bytes 24 0 * 256 + get_or bytes 25 0 → bytes ≡ response_spelling (record { address = take 16 (drop 8 bytes); port = port; tls = tls })
response_is bytes tls port fits has s t p =
    let e0 : get_or bytes 0 0 ≡ 1 = omega (arith, has.0.0.1, fits 0, fits 1) in
    let e1 : get_or bytes 1 0 ≡ 254 = omega (arith, has.0.0.1, fits 0, fits 1) in
    let e2 : get_or bytes 2 0 ≡ 144 = omega (arith, has.0.2, fits 2, fits 3, get_or-drop 2 bytes 0 0, get_or-drop 2 bytes 1 0) in
    let e3 : get_or bytes 3 0 ≡ 1 = omega (arith, has.0.2, fits 2, fits 3, get_or-drop 2 bytes 0 0, get_or-drop 2 bytes 1 0) in
    let e4 : get_or bytes 4 0 ≡ 0 = omega (arith, has.2, fits 4, fits 5, fits 6, fits 7, get_or-drop 4 bytes 0 0, get_or-drop 4 bytes 1 0, get_or-drop 4 bytes 2 0, get_or-drop 4 bytes 3 0) in
    let e5 : get_or bytes 5 0 ≡ 0 = omega (arith, has.2, fits 4, fits 5, fits 6, fits 7, get_or-drop 4 bytes 0 0, get_or-drop 4 bytes 1 0, get_or-drop 4 bytes 2 0, get_or-drop 4 bytes 3 0) in
    let e6 : get_or bytes 6 0 ≡ 0 = omega (arith, has.2, fits 4, fits 5, fits 6, fits 7, get_or-drop 4 bytes 0 0, get_or-drop 4 bytes 1 0, get_or-drop 4 bytes 2 0, get_or-drop 4 bytes 3 0) in
    let e7 : get_or bytes 7 0 ≡ 20 = omega (arith, has.2, fits 4, fits 5, fits 6, fits 7, get_or-drop 4 bytes 0 0, get_or-drop 4 bytes 1 0, get_or-drop 4 bytes 2 0, get_or-drop 4 bytes 3 0) in
    let e24 : get_or bytes 24 0 ≡ port / 256 % 256 = omega (arith, fits 24, fits 25) in
    let e25 : get_or bytes 25 0 ≡ port % 256 = omega (arith, fits 24, fits 25) in
    twenty_eight bytes has.1 ∙ rw (e0, e1, e2, e3, e4, e5, e6, e7, e24, e25, s, t) refl

-- what the four writes make
pub response_written : (frame address port_bytes before : List ℕ) (port s : ℕ) → frame ≡ header response_type 20 ++ drop 8 (0 ∷ 0 ∷ 0 ∷ 0 ∷ 0 ∷ 0 ∷ 0 ∷ 0 ∷ 0 ∷ 0 ∷ 0 ∷ 0 ∷ 0 ∷ 0 ∷ 0 ∷ 0 ∷ 0 ∷ 0 ∷ 0 ∷ 0 ∷ 0 ∷ 0 ∷ 0 ∷ 0 ∷ 0 ∷ 0 ∷ 0 ∷ 0 ∷ [])
    → length address ≡ 16 → port_bytes ≡ big_bytes 2 port ++ drop 2 (take 2 before)
    → set (put_mid 24 2 (put_mid 8 16 frame address) port_bytes) 26 s ≡ header response_type 20 ++ (address ++ big_bytes 2 port ++ s ∷ 0 ∷ [])
response_written frame address port_bytes before port s f len p =
    let none : drop 2 (take 2 before) ≡ [] = nil_from_length _ (omega (arith, length-drop 2 (take 2 before), length-take 2 before)) in
    rw (f, p, none) (subst (λ (a : List ℕ). set (put_mid 24 2 (put_mid 8 16 (header response_type 20 ++ (0 ∷ 0 ∷ 0 ∷ 0 ∷ 0 ∷ 0 ∷ 0 ∷ 0 ∷ 0 ∷ 0 ∷ 0 ∷ 0 ∷ 0 ∷ 0 ∷ 0 ∷ 0 ∷ 0 ∷ 0 ∷ 0 ∷ 0 ∷ [])) a) (big_bytes 2 port)) 26 s ≡ header response_type 20 ++ (a ++ big_bytes 2 port ++ s ∷ 0 ∷ []))
    (sym (sixteen address len)) refl)

-- what stands at the places of a spelling
address_read : (r : SdpResponse) → IsResponse r → take 16 (drop 8 (response_spelling r)) ≡ r.address
address_read r is =
    subst (λ (a : List ℕ). take 16 ((a ++ big_bytes 2 r.port) ++ security r.tls ∷ tcp ∷ []) ≡ a) (sym (sixteen r.address is.0)) refl

port_read : (r : SdpResponse) → IsResponse r → big_number 2 (drop 24 (response_spelling r)) ≡ r.port
port_read r is =
    subst (λ (a : List ℕ). big_number 2 (drop 16 ((a ++ big_bytes 2 r.port) ++ security r.tls ∷ tcp ∷ [])) ≡ r.port) (sym (sixteen r.address is.0)) (omega (arith, is.1))

security_read : (r : SdpResponse) → IsResponse r → security_of 20 (response_spelling r) ≡ security r.tls
security_read r is =
    subst (λ (a : List ℕ). get_or ((a ++ big_bytes 2 r.port) ++ security r.tls ∷ tcp ∷ []) 18 0 ≡ security r.tls) (sym (sixteen r.address is.0)) refl

same_security : (a b : Bool) → security a ≡ security b → a ≡ b
same_security true true e = refl
same_security true false e = absurd (omega arith)
same_security false true e = absurd (omega arith)
same_security false false e = refl

-- a datagram spells one response
pub one_response : (bytes : List ℕ) (r s : SdpResponse) → IsResponse r → IsResponse s → bytes ≡ response_spelling r → bytes ≡ response_spelling s → r ≡ s
one_response bytes r s is_r is_s e f =
    let same : response_spelling r ≡ response_spelling s = sym e ∙ f in
    let a : r.address ≡ s.address = sym (address_read r is_r) ∙ ap (λ (x : List ℕ). take 16 (drop 8 x)) same ∙ address_read s is_s in
    let p : r.port ≡ s.port = sym (port_read r is_r) ∙ ap (λ (x : List ℕ). big_number 2 (drop 24 x)) same ∙ port_read s is_s in
    let t : r.tls ≡ s.tls = same_security r.tls s.tls (sym (security_read r is_r) ∙ ap (λ (x : List ℕ). security_of 20 x) same ∙ security_read s is_s) in
    let one : r ≡ record { address = s.address; port = r.port; tls = r.tls } = ap (λ (x : List ℕ). let y : SdpResponse = record { address = x; port = r.port; tls = r.tls } in y) a in
    let two : r ≡ record { address = s.address; port = s.port; tls = r.tls } = one ∙ ap (λ (x : ℕ). let y : SdpResponse = record { address = s.address; port = x; tls = r.tls } in y) p in
    two ∙ ap (λ (x : Bool). let y : SdpResponse = record { address = s.address; port = s.port; tls = x } in y) t
