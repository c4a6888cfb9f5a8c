-- In which form scrypt's code holds words, blocks and its table. Private: no public contract cites
-- this module.
use Rattle.std.specs.Prelude.{◌≡◌, ℕ, List, [], ◌∷◌, ◌++◌, slice_index, ◌<◌, length, ◌*◌, ◌%◌, ◌^◌}
use Rattle.std.specs.Prelude.{◌≤◌, vec_len, vec_capacity}
use Rattle.std.specs.declared.vec.Vec.{Vec}
use Rattle.age_scrypt.specs.Scrypt.{quarter, part, v_block, work_factor_limit}
use Rattle.age_scrypt.specs.declared.part.Part.{Part}

-- ---- Sixteen words in four vectors of four.

-- the words, row by row
abbrev pub words : Part → List ℕ
words p = p.a ++ p.b ++ p.c ++ p.d

-- the words at four places
abbrev pub at_places : List ℕ → ℕ → ℕ → ℕ → ℕ → List ℕ
at_places x i j k l = slice_index x i ∷ slice_index x j ∷ slice_index x k ∷ slice_index x l ∷ []

-- the vectors are the rows of x
pub record IsRows (x : List ℕ) (p : Part) : Type 0 where
  pub a : p.a ≡ at_places x 0 1 2 3
  pub b : p.b ≡ at_places x 4 5 6 7
  pub c : p.c ≡ at_places x 8 9 10 11
  pub d : p.d ≡ at_places x 12 13 14 15

-- the vectors are the diagonals of x, each word in the lane of its column
pub record IsDiagonals (x : List ℕ) (p : Part) : Type 0 where
  pub a : p.a ≡ at_places x 0 5 10 15
  pub b : p.b ≡ at_places x 4 9 14 3
  pub c : p.c ≡ at_places x 8 13 2 7
  pub d : p.d ≡ at_places x 12 1 6 11

-- the rows of x as columns
unfoldable pub transpose : List ℕ → List ℕ
transpose x =
    at_places x 0 4 8 12 ++ at_places x 1 5 9 13 ++ at_places x 2 6 10 14 ++ at_places x 3 7 11 15

-- a quarter round on each lane of four vectors
abbrev pub quarters : List ℕ → List ℕ → List ℕ → List ℕ → List (ℕ × ℕ × ℕ × ℕ)
quarters (a ∷ rest_a) (b ∷ rest_b) (c ∷ rest_c) (d ∷ rest_d) =
    quarter a b c d ∷ quarters rest_a rest_b rest_c rest_d
quarters _ _ _ _ = []

-- ---- A block that is kept with the diagonals of each part in place of its rows.

-- the diagonals of sixteen words, one after the other: word k is word 5 k mod 16 of x
unfoldable pub turned : List ℕ → List ℕ
turned x =
    at_places x 0 5 10 15 ++ at_places x 4 9 14 3 ++ at_places x 8 13 2 7 ++ at_places x 12 1 6 11

-- y is the block b with each part turned
pub record IsTurned (b y : List ℕ) : Type 0 where
  pub len : length b ≡ 256
  pub at : (i : ℕ) → i < 16 → part 16 y i ≡ turned (part 16 b i)

-- ---- The table that the code keeps in place of V.

-- block i of the table is V i of the block b, turned, for each i below n
pub record IsTable (b : List ℕ) (n : ℕ) (table : List ℕ) : Type 0 where
  pub at : (i : ℕ) → i < n → IsTurned (v_block b i) (part 256 table i)

-- ---- The memory that ROMix works in. A block has 256 words.

-- N of the RFC: how many blocks a table may have
pub record IsCount (n : ℕ) : Type 0 where
  -- There is one to look up.
  pub some : 0 < n
  -- A table of that many has at most 4 GiB.
  pub few : n ≤ 2 ^ work_factor_limit
  -- The lowest word of Integerify decides which one is looked up.
  pub divides : 2 ^ 32 % n ≡ 0

-- a table that isn't filled yet
pub record HasTableRoom {Z : Type 0} (n : ℕ) (table : Vec ℕ Z) : Type 0 where
  -- It holds no block.
  pub empty : vec_len table ≡ 0
  -- Room was reserved for n blocks.
  pub room : 256 * n ≤ vec_capacity table

-- a block, and another that is written over
pub record AreBlocks (x y : List ℕ) : Type 0 where
  -- X is one block.
  pub x_len : length x ≡ 256
  -- Y is one block.
  pub y_len : length y ≡ 256

-- the memory for a key of n blocks, which its caller takes
pub record IsWorkspace {Z : Type 0} (n : ℕ) (table : Vec ℕ Z) (x y : List ℕ) : Type 0 where
  -- The table isn't filled yet, and there is room.
  pub room : HasTableRoom n table
  -- X and Y are one block each.
  pub blocks : AreBlocks x y

-- the table after the first half of ROMix, and X before and after it
pub record IsFilled {Z : Type 0} (n : ℕ) (old : List ℕ) (table : Vec ℕ Z) (new : List ℕ)
    : Type 0 where
  -- The table holds n blocks.
  pub len : vec_len table ≡ 256 * n
  -- If X was the turned block b before, block i of the table is V i of b, turned.
  pub blocks : (b : List ℕ) → IsTurned b old → IsTable b n table.items
  -- Then X is now V n of b, turned.
  pub mixed : (b : List ℕ) → IsTurned b old → IsTurned (v_block b n) new
