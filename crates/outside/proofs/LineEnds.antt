-- What is kept of a text, with one more byte at its end.
use Rattle.std.proofs.Common.{◌≡◌, ◌≤◌, ◌<◌, ◌==◌, ◌+◌, ℕ, Bool, true, false, List, [], ◌∷◌, ◌++◌, length, min, take, Option, Some, None, if◌then◌else◌, refl, sym, ap, ◌∙◌, ◌&&◌, append_assoc, arith, length-append, get_or}
use Rattle.std.specs.Prelude.{option_map, nat_lt}
use Rattle.std.specs.List.{filter}
use Rattle.std.proofs.lemmas.List.{length-take, take_all, take-append-le, take_more, append-nil}
use Rattle.std.proofs.lemmas.Bool.{ltb-true, ltb-false}
use Rattle.std.proofs.lemmas.Bool.Decides.{nat_tests}
use Rattle.std.proofs.lemmas.List.Elements.{filter-append}
use Rattle.outside.specs.declared.fault_lines.TheConstants.{MAX_FAULT_LINES}
use Rattle.outside.specs.Contents.{AppendsPart}
use Rattle.outside.specs.FaultLines.{Keeps, Kept, lines_behind, line_behind, tells_fault, fault_lines, with_line}

-- two texts that go on alike at a line feed and at another byte
fed_by : (b : Bool) (xs ys us vs : List (List ℕ)) (p q : List ℕ) → xs ≡ us ++ (p ∷ []) → ys ≡ vs
    ++ (q ∷ []) → (if b then xs else ys) ≡ (if b then us else vs) ++ ((if b then p else q) ∷ [])
fed_by true xs ys us vs p q first second = first
fed_by false xs ys us vs p q first second = second

same_by : {X : Type 0} (b : Bool) (x y u v : X) → x ≡ u → y ≡ v → (if b then x else y)
    ≡ (if b then u else v)
same_by true x y u v first second = first
same_by false x y u v first second = second

both_by : (b : Bool) (x y z : List ℕ) → x ≡ z → y ≡ z → (if b then x else y) ≡ z
both_by true x y z first second = first
both_by false x y z first second = second

more_by : (b : Bool) (x y u v z : List ℕ) → x ≡ u ++ z → y ≡ v ++ z → (if b then x else y)
    ≡ (if b then u else v) ++ z
more_by true x y u v z first second = first
more_by false x y u v z first second = second

-- the lines of a text with a line feed more
lines_fed : (line xs : List ℕ) → lines_behind line (xs ++ (10 ∷ [])) ≡ lines_behind line xs
    ++ (line_behind line xs ∷ [])
lines_fed line [] = refl
lines_fed line (x ∷ xs) =
    fed_by (x == 10) _ _ _ _ _ _ (ap (λ ls. line ∷ ls) (lines_fed [] xs))
    (lines_fed (line ++ (x ∷ [])) xs)

line_fed : (line xs : List ℕ) → line_behind line (xs ++ (10 ∷ [])) ≡ []
line_fed line [] = refl
line_fed line (x ∷ xs) = both_by (x == 10) _ _ [] (line_fed [] xs) (line_fed (line ++ (x ∷ [])) xs)

-- another byte goes on with the line
lines_gone_on : (line xs : List ℕ) (c : ℕ) → (c == 10) ≡ false → lines_behind line (xs ++ (c ∷ []))
    ≡ lines_behind line xs
lines_gone_on line [] c other = rw other refl
lines_gone_on line (x ∷ xs) c other =
    same_by (x == 10) _ _ _ _ (ap (λ ls. line ∷ ls) (lines_gone_on [] xs c other))
    (lines_gone_on (line ++ (x ∷ [])) xs c other)

line_gone_on : (line xs : List ℕ) (c : ℕ) → (c == 10) ≡ false → line_behind line (xs ++ (c ∷ []))
    ≡ line_behind line xs ++ (c ∷ [])
line_gone_on line [] c other = rw other refl
line_gone_on line (x ∷ xs) c other =
    more_by (x == 10) _ _ _ _ (c ∷ []) (line_gone_on [] xs c other)
    (line_gone_on (line ++ (x ∷ [])) xs c other)

not_feed : (c : ℕ) → ¬ (c ≡ 10) → (c == 10) ≡ false
not_feed c other = grind (arith, nat_tests)

pub goes_on : (text : List ℕ) (kept after : Kept) (c : ℕ) → ¬ (c ≡ 10) → after.lines ≡ kept.lines
    → after.line ≡ kept.line ++ (c ∷ []) → Keeps text kept → Keeps (text ++ (c ∷ [])) after
goes_on text kept after c other lines line keeps =
    let off : (c == 10) ≡ false = not_feed c other in
    record {
      lines = lines ∙ keeps.lines ∙ ap (λ ls. take MAX_FAULT_LINES (filter tells_fault ls))
          (sym (lines_gone_on [] text c off));
      line = line ∙ ap (λ l. l ++ (c ∷ [])) keeps.line ∙ sym (line_gone_on [] text c off);
    }

-- the lines that tell a fault, of a text with a line feed more
lines_told : (text : List ℕ) → fault_lines (text ++ (10 ∷ [])) ≡ fault_lines text
    ++ filter tells_fault (line_behind [] text ∷ [])
lines_told text = ap (filter tells_fault) (lines_fed [] text)
    ∙ filter-append tells_fault (lines_behind [] text) (line_behind [] text ∷ [])

take_full : (most : ℕ) (xs ys zs : List (List ℕ)) → zs ≡ take most xs → most ≤ length zs → zs
    ≡ take most (xs ++ ys)
take_full most xs ys zs is full =
    let long : length zs ≡ min most (length xs) = ap length is ∙ length-take most xs in
    let fits : most ≤ length xs = omega (arith, long, full) in
    is ∙ sym (take-append-le most xs ys fits)

take_room : (most : ℕ) (xs zs : List (List ℕ)) (x : List ℕ) → zs ≡ take most xs → length zs < most
    → zs ++ (x ∷ []) ≡ take most (xs ++ (x ∷ []))
take_room most xs zs x is room =
    let long : length zs ≡ min most (length xs) = ap length is ∙ length-take most xs in
    let fits : length xs ≤ most = omega (arith, long, room) in
    let all : zs ≡ xs = is ∙ take_all most xs fits in
    let more : length (xs ++ (x ∷ [])) ≤ most =
    omega (arith, long, room, length-append xs (x ∷ [])) in
    ap (λ ls. ls ++ (x ∷ [])) all ∙ sym (take_all most (xs ++ (x ∷ [])) more)

-- the line is added where it tells a fault and there is room
with_by : (most : ℕ) (xs zs : List (List ℕ)) (x : List ℕ) (tells room : Bool) → tells_fault x
    ≡ tells → nat_lt (length zs) most ≡ room → zs ≡ take most xs
    → (if tells && room then zs ++ (x ∷ []) else zs) ≡ take most (xs ++ filter tells_fault (x ∷ []))
with_by most xs zs x true true tells room is =
    rw tells (take_room most xs zs x is (ltb-true _ _ room))
with_by most xs zs x true false tells room is =
    rw tells (take_full most xs (x ∷ []) zs is (ltb-false _ _ room))
with_by most xs zs x false room tells has is = rw tells (is ∙ ap (take most) (sym (append-nil xs)))

pub ends : (text : List ℕ) (kept after : Kept) → after.lines ≡ with_line kept.lines kept.line
    → after.line ≡ [] → Keeps text kept → Keeps (text ++ (10 ∷ [])) after
ends text kept after lines line keeps = record {
  lines = lines ∙ with_by MAX_FAULT_LINES (fault_lines text) kept.lines kept.line _ _ refl refl
      keeps.lines ∙ ap (λ l. take MAX_FAULT_LINES (fault_lines text ++ filter tells_fault (l ∷ [])))
      keeps.line ∙ ap (take MAX_FAULT_LINES) (sym (lines_told text));
  line = line ∙ sym (line_fed [] text);
}

-- one byte more of a text that comes in pieces
pub goes_further : (text bytes : List ℕ) (i d : ℕ) (after : Kept) → i < length bytes
    → Keeps ((text ++ take i bytes) ++ (get_or bytes i d ∷ [])) after
    → Keeps (text ++ take (i + 1) bytes) after
goes_further text bytes i d after within keeps =
    rw (take_more bytes i d within, ← append_assoc text (take i bytes) (get_or bytes i d ∷ []))
    keeps

none_more : (held : Option (List ℕ)) → held ≡ option_map (λ bytes. bytes ++ []) held
none_more None = refl
none_more (Some bytes) = ap Some (sym (append-nil bytes))

-- nothing is a first part
pub nothing_written : (old new : Option (List ℕ)) (bytes : List ℕ) → new ≡ old
    → AppendsPart old bytes new
nothing_written old new bytes same = (0, same ∙ none_more old)
