-- What has been written once code is written behind it.
use Rattle.std.proofs.Common.{◌≡◌, ℕ, ◌+◌, ◌<◌, Option, Some, None, List, ◌∷◌, ◌++◌, length, get_or, drop, refl, ap, sym, ◌∙◌, append_assoc, add-one}
use Rattle.std.proofs.lemmas.Grind.{flat_map-append}
use Rattle.std.proofs.lemmas.List.{drop_more}
use Rattle.byteorder.specs.Endian.{little_bytes}
use Rattle.op_layout.specs.declared.layout.Layout.{Layout}
use Rattle.op_rv.specs.Encoding.{word_of}
use Rattle.op_rv.specs.declared.instruction.Instr.{Instr}
use Rattle.op_rv.specs.declared.objects.Item.{Item}
use Rattle.op_rv.specs.declared.objects.ObjectBlock.{ObjectBlock}
use Rattle.op_rv.specs.declared.objects.ObjectRoutine.{ObjectRoutine}
use Rattle.op_link.proofs.Lengths.{some_same}
use Rattle.op_link.specs.declared.addresses.Addresses.{Addresses}
use Rattle.op_link.specs.declared.place.Spot.{Spot}
use Rattle.op_link.specs.Placing.{behind, behind_items, behind_routine}
use Rattle.op_link.specs.Code.{then_code, words_of, written, item_code, items_code, blocks_code, routine_code, routines_code}

pub words-append : (a b : List Instr) → words_of (a ++ b) ≡ words_of a ++ words_of b
words-append a b = flat_map-append (λ i. little_bytes 4 (word_of i)) a b

-- code, and then more of it
pub written_then : (old mid : List ℕ) (first rest : Option (List Instr)) → written old first ≡ Some mid → written mid rest ≡ written old (then_code first rest)
written_then old mid None rest is = cc
written_then old mid (Some a) None is = refl
written_then old mid (Some a) (Some b) is =
    ap Some (ap (λ front. front ++ words_of b) (sym (some_same _ _ is)) ∙ append_assoc old (words_of a) (words_of b) ∙ ap (λ more. old ++ more) (sym (words-append a b)))

-- one item, block or routine of several, and the others behind it
pub items_step : (layout : Layout) (addresses : Addresses) (r : ℕ) (spot next : Spot) (items : List Item) (i : ℕ) (d : Item) (old mid : List ℕ) → i < length items → next ≡ behind addresses.known r spot (get_or items i d) → written old (item_code layout addresses r spot (get_or items i d)) ≡ Some mid → written mid (items_code layout addresses r next (drop (i + 1) items)) ≡ written old (items_code layout addresses r spot (drop i items))
items_step layout addresses r spot next items i d old mid inside is_next is =
    ap (λ next. written mid (items_code layout addresses r next (drop (i + 1) items))) is_next
    ∙ written_then old mid _ _ is
    ∙ ap (λ items. written old (items_code layout addresses r spot items)) (sym (drop_more items i d inside))

pub blocks_step : (layout : Layout) (addresses : Addresses) (r : ℕ) (spot next : Spot) (blocks : List ObjectBlock) (i : ℕ) (block : ObjectBlock) (old mid : List ℕ) → i < length blocks → block ≡ get_or blocks i block → next ≡ behind_items addresses.known r spot block.items → written old (items_code layout addresses r spot block.items) ≡ Some mid → written mid (blocks_code layout addresses r next (drop (i + 1) blocks)) ≡ written old (blocks_code layout addresses r spot (drop i blocks))
blocks_step layout addresses r spot next blocks i block old mid inside is_block is_next is =
    ap (λ next. written mid (blocks_code layout addresses r next (drop (i + 1) blocks))) is_next
    ∙ written_then old mid _ _ is
    ∙ ap (λ blocks. written old (blocks_code layout addresses r spot blocks)) (ap (λ b. b ∷ drop (i + 1) blocks) is_block ∙ sym (drop_more blocks i block inside))

pub routines_step : (layout : Layout) (addresses : Addresses) (spot next : Spot) (routines : List ObjectRoutine) (i : ℕ) (routine : ObjectRoutine) (old mid : List ℕ) → i < length routines → routine ≡ get_or routines i routine → next ≡ behind_routine addresses.known i spot routine → written old (routine_code layout addresses i spot routine) ≡ Some mid → written mid (routines_code layout addresses (i + 1) next (drop (i + 1) routines)) ≡ written old (routines_code layout addresses i spot (drop i routines))
routines_step layout addresses spot next routines i routine old mid inside is_routine is_next is =
    ap (λ next. written mid (routines_code layout addresses (i + 1) next (drop (i + 1) routines))) is_next
    ∙ ap (λ k. written mid (routines_code layout addresses k (behind_routine addresses.known i spot routine) (drop (i + 1) routines))) (add-one i)
    ∙ written_then old mid _ _ is
    ∙ ap (λ routines. written old (routines_code layout addresses i spot routines)) (ap (λ b. b ∷ drop (i + 1) routines) is_routine ∙ sym (drop_more routines i routine inside))
