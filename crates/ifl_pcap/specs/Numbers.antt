-- The numbers of 32 bits in a capture's file, in either order of their bytes.
use Rattle.std.specs.Prelude.{ℕ, List}
use Rattle.byteorder.specs.Endian.{little_bytes, little_number, big_bytes, big_number}
use Rattle.ifl_pcap.specs.declared.form.Order.{Order}
use Rattle.ifl_pcap.specs.declared.form.Order.TheVariants.{Little, Big}

-- a number's four bytes
unfoldable pub spelled_in : Order → ℕ → List ℕ
spelled_in Little n = little_bytes 4 n
spelled_in Big n = big_bytes 4 n

-- the number in the first four bytes
unfoldable pub number_in : Order → List ℕ → ℕ
number_in Little bytes = little_number 4 bytes
number_in Big bytes = big_number 4 bytes
