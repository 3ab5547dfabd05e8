-- The bit patterns of the entries, at both widths, as the code holds them.
use Rattle.std.specs.Prelude.{ℕ, List, [], ◌∷◌}
use Rattle.std.specs.Float.{Format, binary32, binary64}
use Rattle.tables.specs.Tables.{cos_half_row, k_row, a_row, b_row, d_row, Table, circle_table, recip_row}

unfoldable pub patterns : Format → Table → List ℕ
patterns binary32 (circle_table cos_half_row) =
    0x3f800000 ∷ 0xbe000000 ∷ 0x3b2aaaab ∷ 0xb7b60b61 ∷ 0x33d00d01 ∷ 0xaf93f27e ∷ 0x2b0f76c7 ∷ 0xa649cba5 ∷ 0x21573f9f
    ∷ 0x9c3413c3 ∷ 0x16f2a15d ∷ 0x918671cb
    ∷ 0x0bf96781 ∷ 0x86447430 ∷ 0x00850c51 ∷ 0x800009ca ∷ []
patterns binary32 (circle_table k_row) =
    0x3f000000 ∷ 0xbcaaaaab ∷ 0x39888889 ∷ 0xb5d00d01 ∷ 0x31b8ef1d ∷ 0xad57322b ∷ 0x28b09231 ∷ 0xa3d73f9f ∷ 0x1eca963c
    ∷ 0x9997a4da ∷ 0x1438dc78 ∷ 0x8ebb0da1
    ∷ 0x091f9e67 ∷ 0x8368d58e ∷ 0x00024b3f ∷ 0x80000028 ∷ []
patterns binary32 (circle_table a_row) =
    0x3f000000 ∷ 0xbd2aaaab ∷ 0x3ab60b61 ∷ 0xb7d00d01 ∷ 0x3493f27e ∷ 0xb10f76c7 ∷ 0x2d49cba5 ∷ 0xa9573f9f ∷ 0x253413c3
    ∷ 0xa0f2a15d ∷ 0x1c8671cb ∷ 0x97f96781
    ∷ 0x13447430 ∷ 0x8e850c51 ∷ 0x099c9963 ∷ 0x84a1a697 ∷ []
patterns binary32 (circle_table b_row) =
    0x3e2aaaab ∷ 0xbc088889 ∷ 0x39500d01 ∷ 0xb638ef1d ∷ 0x32d7322b ∷ 0xaf309231 ∷ 0x2b573f9f ∷ 0xa74a963c ∷ 0x2317a4da
    ∷ 0x9eb8dc78 ∷ 0x1a3b0da1 ∷ 0x959f9e67
    ∷ 0x10e8d58e ∷ 0x8c12cfcc ∷ 0x0721a697 ∷ 0x821cc093 ∷ []
patterns binary32 (circle_table d_row) =
    0x3d2aaaab ∷ 0xbab60b61 ∷ 0x37d00d01 ∷ 0xb493f27e ∷ 0x310f76c7 ∷ 0xad49cba5 ∷ 0x29573f9f ∷ 0xa53413c3 ∷ 0x20f2a15d
    ∷ 0x9c8671cb ∷ 0x17f96781 ∷ 0x93447430
    ∷ 0x0e850c51 ∷ 0x899c9963 ∷ 0x04a1a697 ∷ 0x8024e204 ∷ []
patterns binary32 recip_row =
    0x3f800000 ∷ 0x3f800000 ∷ 0x3f000000 ∷ 0x3e2aaaab ∷ 0x3d2aaaab ∷ 0x3c088889 ∷ 0x3ab60b61 ∷ 0x39500d01 ∷ 0x37d00d01
    ∷ 0x3638ef1d ∷ 0x3493f27e ∷ 0x32d7322b
    ∷ 0x310f76c7 ∷ 0x2f309231 ∷ 0x2d49cba5 ∷ 0x2b573f9f ∷ 0x29573f9f ∷ 0x274a963c ∷ 0x253413c3 ∷ 0x2317a4da ∷ 0x20f2a15d
    ∷ 0x1eb8dc78 ∷ 0x1c8671cb ∷ 0x1a3b0da1
    ∷ 0x17f96781 ∷ 0x159f9e67 ∷ 0x13447430 ∷ 0x10e8d58e ∷ 0x0e850c51 ∷ 0x0c12cfcc ∷ 0x099c9963 ∷ 0x0721a697 ∷ 0x04a1a697
    ∷ []
patterns binary64 (circle_table cos_half_row) =
    0x3ff0000000000000 ∷ 0xbfc0000000000000 ∷ 0x3f65555555555555 ∷ 0xbef6c16c16c16c17 ∷ 0x3e7a01a01a01a01a
    ∷ 0xbdf27e4fb7789f5c ∷ 0x3d61eed8eff8d898 ∷ 0xbcc93974a8c07c9d
    ∷ 0x3c2ae7f3e733b81f ∷ 0xbb86827863b97d97 ∷ 0x3ade542ba4020225 ∷ 0xba30ce396db7f853 ∷ 0x397f2cf01972f578
    ∷ 0xb8c88e85fc6a4e5a ∷ 0x3810a18a2635085d ∷ 0xb753932c5047d60e
    ∷ []
patterns binary64 (circle_table k_row) =
    0x3fe0000000000000 ∷ 0xbf95555555555555 ∷ 0x3f31111111111111 ∷ 0xbeba01a01a01a01a ∷ 0x3e371de3a556c734
    ∷ 0xbdaae64567f544e4 ∷ 0x3d16124613a86d09 ∷ 0xbc7ae7f3e733b81f
    ∷ 0x3bd952c77030ad4a ∷ 0xbb32f49b46814157 ∷ 0x3a871b8ef6dcf572 ∷ 0xb9d761b41316381a ∷ 0x3923f3ccdd165fa9
    ∷ 0xb86d1ab1c2dccea3 ∷ 0x37b259f98b4358ad ∷ 0xb6f434d2e783f5bc
    ∷ []
patterns binary64 (circle_table a_row) =
    0x3fe0000000000000 ∷ 0xbfa5555555555555 ∷ 0x3f56c16c16c16c17 ∷ 0xbefa01a01a01a01a ∷ 0x3e927e4fb7789f5c
    ∷ 0xbe21eed8eff8d898 ∷ 0x3da93974a8c07c9d ∷ 0xbd2ae7f3e733b81f
    ∷ 0x3ca6827863b97d97 ∷ 0xbc1e542ba4020225 ∷ 0x3b90ce396db7f853 ∷ 0xbaff2cf01972f578 ∷ 0x3a688e85fc6a4e5a
    ∷ 0xb9d0a18a2635085d ∷ 0x3933932c5047d60e ∷ 0xb89434d2e783f5bc
    ∷ []
patterns binary64 (circle_table b_row) =
    0x3fc5555555555555 ∷ 0xbf81111111111111 ∷ 0x3f2a01a01a01a01a ∷ 0xbec71de3a556c734 ∷ 0x3e5ae64567f544e4
    ∷ 0xbde6124613a86d09 ∷ 0x3d6ae7f3e733b81f ∷ 0xbce952c77030ad4a
    ∷ 0x3c62f49b46814157 ∷ 0xbbd71b8ef6dcf572 ∷ 0x3b4761b41316381a ∷ 0xbab3f3ccdd165fa9 ∷ 0x3a1d1ab1c2dccea3
    ∷ 0xb98259f98b4358ad ∷ 0x38e434d2e783f5bc ∷ 0xb843981254dd0d52
    ∷ []
patterns binary64 (circle_table d_row) =
    0x3fa5555555555555 ∷ 0xbf56c16c16c16c17 ∷ 0x3efa01a01a01a01a ∷ 0xbe927e4fb7789f5c ∷ 0x3e21eed8eff8d898
    ∷ 0xbda93974a8c07c9d ∷ 0x3d2ae7f3e733b81f ∷ 0xbca6827863b97d97
    ∷ 0x3c1e542ba4020225 ∷ 0xbb90ce396db7f853 ∷ 0x3aff2cf01972f578 ∷ 0xba688e85fc6a4e5a ∷ 0x39d0a18a2635085d
    ∷ 0xb933932c5047d60e ∷ 0x389434d2e783f5bc ∷ 0xb7f2710231c0fd7a
    ∷ []
patterns binary64 recip_row =
    0x3ff0000000000000 ∷ 0x3ff0000000000000 ∷ 0x3fe0000000000000 ∷ 0x3fc5555555555555 ∷ 0x3fa5555555555555
    ∷ 0x3f81111111111111 ∷ 0x3f56c16c16c16c17 ∷ 0x3f2a01a01a01a01a
    ∷ 0x3efa01a01a01a01a ∷ 0x3ec71de3a556c734 ∷ 0x3e927e4fb7789f5c ∷ 0x3e5ae64567f544e4 ∷ 0x3e21eed8eff8d898
    ∷ 0x3de6124613a86d09 ∷ 0x3da93974a8c07c9d ∷ 0x3d6ae7f3e733b81f
    ∷ 0x3d2ae7f3e733b81f ∷ 0x3ce952c77030ad4a ∷ 0x3ca6827863b97d97 ∷ 0x3c62f49b46814157 ∷ 0x3c1e542ba4020225
    ∷ 0x3bd71b8ef6dcf572 ∷ 0x3b90ce396db7f853 ∷ 0x3b4761b41316381a
    ∷ 0x3aff2cf01972f578 ∷ 0x3ab3f3ccdd165fa9 ∷ 0x3a688e85fc6a4e5a ∷ 0x3a1d1ab1c2dccea3 ∷ 0x39d0a18a2635085d
    ∷ 0x398259f98b4358ad ∷ 0x3933932c5047d60e ∷ 0x38e434d2e783f5bc
    ∷ 0x389434d2e783f5bc ∷ []
