-- Z[ω], the ring of the numbers x0 + x1·ω + x2·ω² + x3·ω³, where ω is the eighth root of unity (1 + i)/√2, so ω⁴ = −1.
-- Source: Washington, Introduction to Cyclotomic Fields, chapter 1; for circuits Giles and Selinger 2013.
use Rattle.std.specs.Prelude.{ℤ, pos, negsuc}
use Rattle.ring_laws.specs.Ring.{RingOps, integers}

-- the coordinates of a number, each in A
pub record Cyclotomic (A : Type 0) : Type 0 where
  pub x0 : A
  pub x1 : A
  pub x2 : A
  pub x3 : A

-- formulas over any operations: of numbers, and of the expressions that the solver reads
module _ (O : RingOps) where
  open O use {Carrier, add, mul, neg, num}

  abbrev pub minus : Carrier → Carrier → Carrier
  minus a b = add a (neg b)

  abbrev pub integer_formula : ℤ → Cyclotomic Carrier
  integer_formula n = record { x0 = num n; x1 = num (pos 0); x2 = num (pos 0); x3 = num (pos 0) }

  abbrev pub sum_formula : Cyclotomic Carrier → Cyclotomic Carrier → Cyclotomic Carrier
  sum_formula x y = record { x0 = add x.x0 y.x0; x1 = add x.x1 y.x1; x2 = add x.x2 y.x2; x3 = add x.x3 y.x3 }

  abbrev pub negative_formula : Cyclotomic Carrier → Cyclotomic Carrier
  negative_formula x = record { x0 = neg x.x0; x1 = neg x.x1; x2 = neg x.x2; x3 = neg x.x3 }

  -- the product of the polynomials in ω, by ω⁴ = −1
  abbrev pub product_formula : Cyclotomic Carrier → Cyclotomic Carrier → Cyclotomic Carrier
  product_formula x y = record {
    x0 = minus (minus (minus (mul x.x0 y.x0) (mul x.x1 y.x3)) (mul x.x2 y.x2)) (mul x.x3 y.x1);
    x1 = minus (minus (add (mul x.x0 y.x1) (mul x.x1 y.x0)) (mul x.x2 y.x3)) (mul x.x3 y.x2);
    x2 = minus (add (add (mul x.x0 y.x2) (mul x.x1 y.x1)) (mul x.x2 y.x0)) (mul x.x3 y.x3);
    x3 = add (add (add (mul x.x0 y.x3) (mul x.x1 y.x2)) (mul x.x2 y.x1)) (mul x.x3 y.x0);
  }

  -- the complex conjugate: ω goes to ω⁷ = −ω³
  abbrev pub conjugate_formula : Cyclotomic Carrier → Cyclotomic Carrier
  conjugate_formula x = record { x0 = x.x0; x1 = neg x.x3; x2 = neg x.x2; x3 = neg x.x1 }

  -- a number times its conjugate is norm_whole + norm_root·√2
  abbrev pub norm_whole : Cyclotomic Carrier → Carrier
  norm_whole x = add (add (mul x.x0 x.x0) (mul x.x1 x.x1)) (add (mul x.x2 x.x2) (mul x.x3 x.x3))

  abbrev pub norm_root : Cyclotomic Carrier → Carrier
  norm_root x = minus (add (add (mul x.x0 x.x1) (mul x.x1 x.x2)) (mul x.x2 x.x3)) (mul x.x3 x.x0)

abbrev pub Zω : Type 0
Zω = Cyclotomic ℤ

abbrev pub number : ℤ → ℤ → ℤ → ℤ → Zω
number x0 x1 x2 x3 = record { x0 = x0; x1 = x1; x2 = x2; x3 = x3 }

unfoldable pub integer : ℤ → Zω
integer = integer_formula integers

unfoldable pub plus : Zω → Zω → Zω
plus = sum_formula integers

unfoldable pub negative : Zω → Zω
negative = negative_formula integers

unfoldable pub times : Zω → Zω → Zω
times = product_formula integers

unfoldable pub conjugate : Zω → Zω
conjugate = conjugate_formula integers

abbrev pub cyclotomics : RingOps
cyclotomics = record { Carrier = Zω; add = plus; mul = times; neg = negative; num = integer }

abbrev pub zero_number : Zω
zero_number = integer (pos 0)

abbrev pub one_number : Zω
one_number = integer (pos 1)

unfoldable pub ω : Zω
ω = number (pos 0) (pos 1) (pos 0) (pos 0)

-- √2 = ω − ω³
unfoldable pub root2 : Zω
root2 = number (pos 0) (pos 1) (pos 0) (negsuc 0)
