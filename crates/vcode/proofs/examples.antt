mod Allocations
