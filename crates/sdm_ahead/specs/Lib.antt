pub mod WhatIfs
pub mod CutOffs
