use Rattle.std.proofs.Common.{◌≡◌, ℕ, ◌^◌, ◌<◌, sym, subst}
use Rattle.pauli_basis.specs.Products.{product_code}
use Rattle.pauli_basis.proofs.Products.{product_code-lt}
use Rattle.quick_label.proofs.BlockRows.{empty_room}
use Rattle.quick_label.proofs.blocks.Blocks.new.Goals as goal

closed : (n size : ℕ) → size ≡ 4 ^ n → (x y : ℕ) → x < size → y < size → product_code x y < size
closed n size e = subst (λ (s : ℕ). (x y : ℕ) → x < s → y < s → product_code x y < s) (sym e) (product_code-lt n)

pub invariant_of-result : goal.invariant_of-result
invariant_of-result c =
    empty_room c.codes-size.result _ _ _ _ c.codes-size.ensures.some c.codes-size.ensures.few (closed c.args.n c.codes-size.result c.codes-size.ensures.value)
    (c.in_ok-homes.ensures.items_if_clones_equal (λ y h. h))
    (c.in_ok-rows.ensures.items_if_clones_equal (λ y h. h))
    (c.in_ok-counts.ensures.items_if_clones_equal (λ y h. h))
    (c.in_ok-behind.ensures.items_if_clones_equal (λ y h. h))
