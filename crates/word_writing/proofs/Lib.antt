mod Hex
