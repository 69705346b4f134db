-- The response that a readable datagram is.
use Rattle.std.proofs.Common.{true, false, true≢false, ◌≡◌, ℕ, ◌+◌, ◌<◌, Bool, List, [], ◌∷◌, ◌++◌, length, take, drop, get_or, nat_eq, if◌then◌else◌, refl, sym, ap, subst, ◌∙◌, Option, Some, None, arith}
use Rattle.std.proofs.lemmas.List.{length-take, length-drop, length-append, get_or-drop}
use Rattle.std.proofs.lemmas.Slice.Eq.{text_from_reads}
use Rattle.std.specs.Cmp.Lexicographic.{pointwise, bytes_decides}
use Rattle.byteorder.specs.Endian.{big_number, big_bytes}
use Rattle.sdp_discovery.specs.declared.message.SdpResponse.{SdpResponse}
use Rattle.sdp_discovery.specs.Discovery.{response_spelling, security, tcp, IsResponse}
use Rattle.car_rules.specs.Searching.{response_in, port_of}

abbrev pub IsBytes : List ℕ → Type 0
IsBytes bytes = (i : ℕ) → get_or bytes i 0 < 256

-- sixteen bytes, one by one
sixteen : (l : List ℕ) → length l ≡ 16
    → l ≡ get_or l 0 0 ∷ get_or l 1 0 ∷ get_or l 2 0 ∷ get_or l 3 0 ∷ get_or l 4 0 ∷ get_or l 5 0 ∷ get_or l 6 0 ∷ get_or l 7 0
    ∷ get_or l 8 0 ∷ get_or l 9 0 ∷ get_or l 10 0 ∷ get_or l 11 0 ∷ get_or l 12 0 ∷ get_or l 13 0 ∷ get_or l 14 0 ∷ get_or l 15 0 ∷ []
sixteen l len = text_from_reads l _ len (refl, (refl, (refl, (refl, (refl, (refl, (refl, (refl, (refl, (refl, (refl, (refl, (refl, (refl, (refl, (refl, tt))))))))))))))))

address_read : (r : SdpResponse) → IsResponse r → take 16 (drop 8 (response_spelling r)) ≡ r.address
address_read r is =
    subst (λ (a : List ℕ). take 16 ((a ++ big_bytes 2 r.port) ++ security r.tls ∷ tcp ∷ []) ≡ a) (sym (sixteen r.address is.0)) refl

port_read : (r : SdpResponse) → IsResponse r → big_number 2 (drop 24 (response_spelling r)) ≡ r.port
port_read r is =
    subst (λ (a : List ℕ). big_number 2 (drop 16 ((a ++ big_bytes 2 r.port) ++ security r.tls ∷ tcp ∷ [])) ≡ r.port) (sym (sixteen r.address is.0)) (omega (arith, is.1))

-- what stands in a spelling
response_read : (r : SdpResponse) → IsResponse r → r.tls ≡ false → response_in (response_spelling r) ≡ r
response_read r is t =
    let one : response_in (response_spelling r) ≡ record { address = r.address; port = big_number 2 (drop 24 (response_spelling r)); tls = false }
    = ap (λ (x : List ℕ). let y : SdpResponse = record { address = x; port = big_number 2 (drop 24 (response_spelling r)); tls = false } in y) (address_read r is) in
    let two : response_in (response_spelling r) ≡ record { address = r.address; port = r.port; tls = false }
    = one ∙ ap (λ (x : ℕ). let y : SdpResponse = record { address = r.address; port = x; tls = false } in y) (port_read r is) in
    two ∙ ap (λ (x : Bool). let y : SdpResponse = record { address = r.address; port = r.port; tls = x } in y) (sym t)

abbrev port_if : List ℕ → Bool → Option ℕ
port_if datagram b = if b then Some (response_in datagram).port else None

-- a datagram that spells a response without TLS gives its port
pub port_found : (datagram : List ℕ) (r : SdpResponse) → IsResponse r → r.tls ≡ false → datagram ≡ response_spelling r → Some r.port ≡ port_of datagram
port_found datagram r is t e =
    let same : response_in datagram ≡ r = ap response_in e ∙ response_read r is t in
    let spelled : datagram ≡ response_spelling (response_in datagram) = e ∙ ap response_spelling (sym same) in
    let found : pointwise nat_eq datagram (response_spelling (response_in datagram)) ≡ true = (bytes_decides _ _).1 spelled in
    ap (λ (x : SdpResponse). Some x.port) (sym same) ∙ ap (port_if datagram) (sym found)

spelled_length : (r : SdpResponse) → length (response_spelling r) ≡ 12 + length r.address
spelled_length r =
    omega (arith, length-append (r.address ++ big_bytes 2 r.port) (security r.tls ∷ tcp ∷ []), length-append r.address (big_bytes 2 r.port))

-- a response whose spelling a datagram of bytes is has an address and a port
within : (datagram : List ℕ) → IsBytes datagram → datagram ≡ response_spelling (response_in datagram) → IsResponse (response_in datagram)
within datagram fits e =
    let long : length datagram ≡ 12 + length (take 16 (drop 8 datagram)) = ap length e ∙ spelled_length (response_in datagram) in
    (omega (arith, long, length-take 16 (drop 8 datagram), length-drop 8 datagram), omega (arith, fits 24, fits 25, get_or-drop 24 datagram 0 0, get_or-drop 24 datagram 1 0))

-- one that spells no response without TLS gives none
pub port_missing : (datagram : List ℕ) → IsBytes datagram → ((r : SdpResponse) → IsResponse r → datagram ≡ response_spelling r → r.tls ≡ true) → None ≡ port_of datagram
port_missing datagram fits tls = by (pointwise nat_eq datagram (response_spelling (response_in datagram))) refl
  where
    by : (b : Bool) → pointwise nat_eq datagram (response_spelling (response_in datagram)) ≡ b → None ≡ port_of datagram
    by true found =
        let e : datagram ≡ response_spelling (response_in datagram) = (bytes_decides _ _).0 found in
        absurd (true≢false (sym (tls (response_in datagram) (within datagram fits e) e)))
    by false missing = ap (port_if datagram) (sym missing)
