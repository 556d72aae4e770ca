-- Worked examples, by computation: FIPS 202's table 2 is what the rule of ρ gives, and three rounds of a state of zeros.
-- (All 24 rounds compute too, in some 18 seconds and 1.4 GB: a program runs those, `keccak_states`.)
use Rattle.std.specs.Prelude.{◌≡◌, refl, [], ◌∷◌, map, ◌+◌, ◌%◌, ◌^◌, replicate}
use Rattle.fips202.specs.Fips202.{state, offset, rotl, rounds, round, theta, rho, pi, chi, iota, round_constant, rc, register, shifted}

offsets : state offset
    ≡ map (λ n. n % 64)
    (0 ∷ 1 ∷ 190 ∷ 28 ∷ 91 ∷ 36 ∷ 300 ∷ 6 ∷ 55 ∷ 276 ∷ 3 ∷ 10 ∷ 171 ∷ 153 ∷ 231 ∷ 105 ∷ 45 ∷ 15 ∷ 21 ∷ 136 ∷ 210 ∷ 66 ∷ 253 ∷ 120 ∷ 78 ∷ [])
offsets = refl

rotated : rotl (2 ^ 63 + 5) 1 ≡ 11
unfolding rotl
rotated = refl

three_rounds : rounds 3 (replicate 25 0)
    ≡ 0x8030500001e0840c ∷ 0x38ca983082300106 ∷ 0x08b0340041c14101 ∷ 0x2002783081a00483 ∷ 0x10488c0040d14100
    ∷ 0x00049840d3042220 ∷ 0x11932210b0700202 ∷ 0x40038e20070020f0 ∷ 0x31953040d0600010 ∷ 0x60030c30241400c2
    ∷ 0x0000a50434031950 ∷ 0x003e0038090a8080 ∷ 0xc400828e0c100043 ∷ 0x0022263021081812 ∷ 0xc41c018a18108081
    ∷ 0x01840c580e382590 ∷ 0x3e08505001060000 ∷ 0x040c0061063a6584 ∷ 0x39801c4809030010 ∷ 0x0a08402100074184
    ∷ 0x80859c8008192199 ∷ 0xc700080080e020e2 ∷ 0x008584804017321c ∷ 0x4100180008e801a1 ∷ 0x06000c00c0063266
    ∷ []
unfolding rounds round theta rho pi chi iota rotl round_constant rc register shifted
three_rounds = refl
